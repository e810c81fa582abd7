pub mod Attested
pub mod InTile
pub mod Slots
pub mod Tiling
pub mod Theorems
pub mod Cells
