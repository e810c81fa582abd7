-- The definitions that the contracts cite.
pub mod Indexes
pub mod Block
pub mod Partitions
pub mod Drawing
