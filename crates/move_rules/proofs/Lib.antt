pub mod Attested
pub mod Moving
pub mod Words
pub mod Whole
pub mod Theorems
pub mod Stated
pub mod Stating
