pub mod Boards
pub mod Towards
pub mod Marking
pub mod Cutting
pub mod Showing
pub mod Marks
