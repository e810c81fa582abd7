-- What the decoder promises.
pub mod Promises
