-- The laws that the proofs of the functions cite.
pub mod Walk
pub mod Answers
pub mod Reading
