-- What rows, sheets, pictures and calls mean.
pub mod Rows
pub mod Sheets
pub mod Blocks
pub mod Pictures
pub mod SheetRows
pub mod Calls
