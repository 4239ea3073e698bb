-- Lemmas on records.
pub mod Columns
pub mod Writing
pub mod Filed
