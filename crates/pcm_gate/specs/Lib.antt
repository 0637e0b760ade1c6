-- The noise gate over signed 16-bit samples, and document 01's program.
pub mod Bytes
pub mod Pass
pub mod Program
pub mod Turns
