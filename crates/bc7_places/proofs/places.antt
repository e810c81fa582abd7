pub mod Room
pub mod Starting
pub mod Widths
