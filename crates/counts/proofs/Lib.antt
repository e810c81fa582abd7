pub mod Counting
pub mod Falseness
pub mod Naming
pub mod Recounting
