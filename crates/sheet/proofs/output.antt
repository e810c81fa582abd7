pub mod Scanlines
pub mod Columns
