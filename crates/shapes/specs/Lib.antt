pub mod First
pub mod Keep
pub mod Edit
pub mod Refusals
pub mod OneAnswer
