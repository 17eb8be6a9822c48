pub mod Diagnosis
pub mod Loops
