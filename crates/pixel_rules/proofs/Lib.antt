pub mod Attested
pub mod Walking
pub mod Reading
pub mod Theorems
pub mod Rows
