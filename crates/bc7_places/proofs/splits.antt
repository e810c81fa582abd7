pub mod AnchorPixels
pub mod Leads
pub mod SubsetMaps
pub mod VectorKind
