-- A band of the equaliser, as document 01 has it: what it may hold, its name, its biquad; and bands 0 to 15 in a row.
pub mod Bands
pub mod Names
pub mod Biquad
pub mod Row
