-- The laws that the proofs cite, and the theorems.
pub mod Attested
pub mod Runs
pub mod Rounds
pub mod Room
pub mod Theorems
pub mod text
