-- What a move means.
pub mod Moving
pub mod Stating
