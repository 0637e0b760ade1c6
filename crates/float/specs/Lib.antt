-- Truncation: the word beside its whole number, what it promises, and rows.
pub mod Truncating
pub mod Exactly
pub mod Rows
