pub mod Groups
pub mod Standing
