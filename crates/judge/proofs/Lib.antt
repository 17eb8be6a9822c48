pub mod Judged
pub mod Exactly
pub mod Answers
