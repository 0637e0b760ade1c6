-- The settings of the leveller: what they may be, and their names.
pub mod Ranges
pub mod Names
