pub mod Standing
pub mod Opening
pub mod Ways
