-- The definitions that the contracts cite, and what is printed in all.
pub mod Listing
pub mod Machine
pub mod Text
pub mod Promises
