pub mod Attested
pub mod Lowest
pub mod Modes
pub mod Checking
pub mod SmallRows
pub mod Theorems
