pub mod Maps
pub mod Parts
