-- What the contracts of a search cite.
pub mod Frontier
pub mod Reaching
pub mod Spreading
pub mod Walking
pub mod Retracing
pub mod Represents
pub mod Steps
pub mod Beginning
