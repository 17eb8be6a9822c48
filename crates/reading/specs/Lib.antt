pub mod Reads
pub mod Loops
