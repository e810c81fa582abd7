pub mod Attested
pub mod Bytes
pub mod On
pub mod InOrder
pub mod BitList
pub mod Puts
