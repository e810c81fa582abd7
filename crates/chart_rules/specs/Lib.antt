-- The definitions that the contracts cite, and what is printed in all.
pub mod Names
pub mod Charts
