-- A block's samples through a buffer, and in parts; a band of sixteen.
pub mod Ran
pub mod OneBand
pub mod Parts
