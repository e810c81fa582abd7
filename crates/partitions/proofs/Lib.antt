pub mod Counts
pub mod Maps
pub mod PartitionWords
