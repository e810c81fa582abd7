pub mod BitNumbers
pub mod Rows
pub mod Walks
pub mod EndBytes
pub mod Answers
