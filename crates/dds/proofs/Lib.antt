pub mod Answers
pub mod Filling
pub mod Headers
pub mod Reading
