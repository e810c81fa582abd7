pub mod Asks
pub mod Parts
pub mod Words
pub mod Given
pub mod Storing
