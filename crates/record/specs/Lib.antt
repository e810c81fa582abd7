-- The definitions that the contracts cite.
pub mod Fitting
pub mod Reading
pub mod Writing
