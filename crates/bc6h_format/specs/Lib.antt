-- BC6H, to be read in this order. Floats serves theorems alone.
pub mod Items
pub mod Modes
pub mod Opened
pub mod Widening
pub mod Halves
pub mod Floats
