-- What the contracts of site texts cite.
pub mod Faults
pub mod Site
pub mod Format
