-- What the contracts of the drive cite.
pub mod Refusals
pub mod Calls
pub mod Answers
pub mod Owning
pub mod Beginning
pub mod Looking
pub mod Thinking
pub mod Going
pub mod Telling
