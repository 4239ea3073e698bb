-- What the contracts of the survey cite.
pub mod Faults
pub mod Surveying
pub mod Printing
