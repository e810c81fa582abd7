pub mod Attested
pub mod Answering
pub mod Packing
pub mod Theorems
pub mod Wire
pub mod WirePacking
pub mod WireTheorems
