-- The definitions that the contracts cite.
pub mod Stream
pub mod Writer
