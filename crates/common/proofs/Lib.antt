-- What holds of the follower's level, and of a lookup in a table, beyond the equations of the functions.
pub mod Level
pub mod Lookup
