pub mod Words
pub mod Mixing
