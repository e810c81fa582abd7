-- The definitions that the contracts cite.
pub mod Lanes
pub mod Painting
pub mod Promises
