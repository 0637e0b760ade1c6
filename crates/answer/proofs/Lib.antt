-- What the checks mean, beyond the equations of the functions.
pub mod Refusals
pub mod Told
pub mod Answers
pub mod Finite
pub mod Rates
pub mod Samples
pub mod Blocks
pub mod Names
