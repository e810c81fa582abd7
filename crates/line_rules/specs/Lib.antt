-- Replacing a line and reading one, to be read in this order.
pub mod Replace
pub mod Calls
pub mod Acceptable
pub mod Read
pub mod Promises
