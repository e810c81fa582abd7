-- What the parts of a move ask.
pub mod Rooms
