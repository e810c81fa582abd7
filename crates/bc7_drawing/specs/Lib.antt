-- The definitions that the contracts cite, beside those of `bc7_fields`.
pub mod Words
pub mod Asked
pub mod Colours
