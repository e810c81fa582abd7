-- Which blocks are opaque.
pub mod Opacity
pub mod Promises
