pub mod Positions
pub mod Retests
pub mod Answers
