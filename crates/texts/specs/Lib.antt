-- What the contracts of the texts cite.
pub mod Faults
pub mod Headings
pub mod Fields
pub mod Lines
pub mod Numerals
pub mod Words
pub mod Steps
pub mod FirstLines
