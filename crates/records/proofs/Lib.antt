-- Lemmas on records that are read.
pub mod Rows
pub mod Items
pub mod Below
pub mod Laid
