-- What a pixel is as floats, and which channel a float is.
pub mod Floats
pub mod Promises
