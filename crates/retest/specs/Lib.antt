pub mod Retest
pub mod Picked
