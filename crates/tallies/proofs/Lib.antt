pub mod Tallying
pub mod Tallied
pub mod Answers
