-- What reading one pixel means, and the page that a plain reader goes by.
pub mod Pixels
pub mod Promises
pub mod Strings
pub mod Columns
pub mod Plain
