-- One sample of the multiband saturator, as document 01 and the Rust have it.
pub mod Filters
pub mod Bands
pub mod Step
