-- What the record of a block says.
pub mod Recorded
