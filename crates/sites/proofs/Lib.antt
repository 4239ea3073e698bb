-- Lemmas on site texts.
pub mod Sheets
pub mod Marks
pub mod Rows
pub mod Accepting
pub mod Laid
