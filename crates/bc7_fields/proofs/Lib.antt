pub mod Fields
pub mod Direct
pub mod Showing
pub mod Ends
pub mod Pictures
