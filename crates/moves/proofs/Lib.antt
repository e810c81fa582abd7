pub mod Steps
pub mod Laying
pub mod Answers
pub mod Stating
