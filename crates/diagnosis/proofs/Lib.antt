pub mod Conflicts
pub mod Parts
pub mod Walks
pub mod Lists
pub mod Candidates
pub mod Same
pub mod Answers
