pub mod Calls
pub mod Steps
pub mod Pictures
pub mod Blocks
pub mod Theorems
