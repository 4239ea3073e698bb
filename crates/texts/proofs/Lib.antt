-- Lemmas on texts.
pub mod Cuts
pub mod Numerals
pub mod Words
pub mod Written
pub mod Steps
pub mod Fielded
pub mod Headings
