-- The definitions that the contracts cite, a page for each module.
pub mod Splits
pub mod Places
pub mod Lines
pub mod Reads
