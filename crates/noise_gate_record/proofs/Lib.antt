-- What the record of a block says, proved.
pub mod Recorded
