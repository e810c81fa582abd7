-- What the header of a DDS file is, and what import and export mean.
pub mod Header
pub mod Lengths
pub mod Files
pub mod Promises
