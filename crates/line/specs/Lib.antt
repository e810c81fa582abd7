-- The definitions that the contracts cite.
pub mod Opened
pub mod Reading
pub mod Fields
pub mod Parts
