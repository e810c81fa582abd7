pub mod Attested
pub mod Theorems
