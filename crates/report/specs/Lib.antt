pub mod Reports
pub mod Loops
