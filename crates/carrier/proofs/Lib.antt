pub mod Feeling
