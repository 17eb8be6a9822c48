pub mod Saved
pub mod Told
pub mod Answers
pub mod Tails
