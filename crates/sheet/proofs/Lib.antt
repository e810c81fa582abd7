pub mod Decoding
pub mod Reading
pub mod Replacing
pub mod SheetDecoding
