pub mod Looking
pub mod Answering
