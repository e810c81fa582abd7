-- The definitions that the contracts cite, beside those of `bcn_format`.
pub mod Weights
