-- The table's rule; a clamp.
pub mod Entries
pub mod Rule
pub mod Clamp
