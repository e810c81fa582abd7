pub mod Numbers
pub mod Channels
pub mod Measuring
pub mod Trying
pub mod Hitting
