-- What finding an index means.
pub mod Nearest
pub mod Parts
pub mod Promises
