-- What tile order means.
pub mod Tiles
pub mod Computed
