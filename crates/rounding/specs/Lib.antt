-- Document 01's float arithmetic, then what the steps of `fma` compute.
pub mod Fma
pub mod Casts
pub mod Steps
