-- What the profile admits, and what its calls answer.
pub mod Profile
pub mod Small
