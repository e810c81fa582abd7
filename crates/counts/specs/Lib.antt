-- The definitions that only the code's own contracts cite.
pub mod Blocks
