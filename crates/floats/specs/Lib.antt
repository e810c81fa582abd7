-- The channel that a pattern of bits can be the float of.
pub mod Candidates
