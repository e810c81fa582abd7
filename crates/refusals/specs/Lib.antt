-- What a call that may be refused answers.
pub mod Answers
