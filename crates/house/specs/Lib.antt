pub mod Refusal
pub mod File
pub mod Table
pub mod Cases
pub mod Walk
pub mod Left
pub mod Bytes
