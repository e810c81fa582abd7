-- What looking for the first block that breaks the profile asks, and what it keeps.
pub mod Looking
