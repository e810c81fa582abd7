-- That an answer is one result's.
pub mod Answers
