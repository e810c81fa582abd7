pub mod Remove
pub mod Reading
pub mod Anchoring
