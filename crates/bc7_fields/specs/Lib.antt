-- The definitions that the decoder's contracts cite.
pub mod Painting
pub mod Fields
pub mod Rotating
