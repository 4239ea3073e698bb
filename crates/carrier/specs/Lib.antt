-- What the contracts of the carriers cite.
pub mod Parts
pub mod Steps
pub mod Unfits
pub mod Sheets
pub mod Pillars
pub mod Parting
pub mod PartGuiding
pub mod Covering
pub mod SheetsLemmas
