pub mod Weights
pub mod Keyed
pub mod Weighing
