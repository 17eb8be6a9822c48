pub mod Listed
pub mod Told
pub mod Shown
pub mod Answers
pub mod Tails
