pub mod Least
pub mod Finding
pub mod Standing
pub mod Correcting
pub mod Theorems
pub mod Attested
