-- That it holds.
pub mod Proved
