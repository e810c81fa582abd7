-- Counts of a sheet, and what replacing leaves of them; to be read in this order.
pub mod Counts
pub mod Keeping
pub mod Calls
