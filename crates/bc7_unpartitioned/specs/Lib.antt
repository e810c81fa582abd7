-- The definitions that the contracts cite, beside those of the crates below.
pub mod Crossing
