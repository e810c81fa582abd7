-- The claims, the laws that the proofs cite, and the theorems.
pub mod Attested
pub mod Standing
pub mod Lengths
pub mod Theorems
