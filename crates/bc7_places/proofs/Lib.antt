-- What is proved of the reads of a block.
pub mod FieldsStood
