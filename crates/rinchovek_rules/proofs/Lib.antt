pub mod Attested
pub mod Counting
pub mod AttestedHalves
pub mod AttestedFloats
pub mod Importing
pub mod Opening
pub mod Theorems
