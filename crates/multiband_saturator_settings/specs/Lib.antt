-- The settings of the multiband saturator: what they may be, and their names.
pub mod Ranges
pub mod Names
