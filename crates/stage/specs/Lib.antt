-- What every call of every stage does.
pub mod Calls
pub mod Vetting
