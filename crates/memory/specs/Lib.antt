pub mod Layout
pub mod Form
pub mod Held
pub mod Store
pub mod Loops
