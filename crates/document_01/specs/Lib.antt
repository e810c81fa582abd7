-- What document 01 lists.
pub mod Claims
