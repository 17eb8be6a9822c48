pub mod Entries
pub mod BuiltIn
pub mod Answers
