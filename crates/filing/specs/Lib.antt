-- What the contracts of records cite.
pub mod Faults
pub mod Written
pub mod Pen
