-- The settings of the noise gate: their figures, what they may be, and their names.
pub mod Figures
pub mod Ranges
pub mod Names
