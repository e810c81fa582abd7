-- What the reads that open a mode 4 block give.
pub mod Openings
