pub mod Halves
pub mod Runs
pub mod Groups
pub mod Taking
pub mod Putting
pub mod Sets
pub mod Indexes
pub mod Whole
