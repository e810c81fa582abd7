-- One call after another.
pub mod Calls
pub mod Tables
pub mod Digits
pub mod Refusals
pub mod Padding
pub mod Text
pub mod Counting
pub mod Inverse
