-- One sample of the noise gate, as document 01 has it.
pub mod Figures
pub mod Step
