-- What the contracts of the reader of records cite.
pub mod Faults
pub mod Reading
pub mod Records
pub mod Format
