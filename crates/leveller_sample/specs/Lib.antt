-- One sample of the leveller, as document 02's W7 has it.
pub mod Figures
pub mod Step
