-- The record of a block, taking apart and packing.
pub mod Records
pub mod Answers
pub mod Wire
pub mod Promises
