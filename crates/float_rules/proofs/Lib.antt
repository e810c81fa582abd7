pub mod Attested
pub mod Order
pub mod Channels
pub mod Back
pub mod Nans
pub mod Theorems
