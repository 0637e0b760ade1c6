-- The tone stack's settings, and one sample of it, as document 01 and `tonestack.rs` have them.
pub mod Models
pub mod Ranges
pub mod Names
pub mod Alpha
pub mod Step
