-- What the reader's inner functions ask and answer.
pub mod Asked
