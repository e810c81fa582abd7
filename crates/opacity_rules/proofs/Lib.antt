pub mod Attested
pub mod Stopping
pub mod Theorems
