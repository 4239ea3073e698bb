-- What `find` answers, for the proof of `Guide::lead`.
pub mod Finding
