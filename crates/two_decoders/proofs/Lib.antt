pub mod Theorems
pub mod Small
