-- What every stage answers and checks.
pub mod Figures
pub mod Refusals
pub mod Told
pub mod Checks
pub mod Blocks
pub mod Buffers
pub mod Crossing
pub mod Names
