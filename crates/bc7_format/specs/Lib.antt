-- The format, page by page.
pub mod Modes
pub mod Splits
pub mod Places
pub mod Lines
pub mod WellFormed
