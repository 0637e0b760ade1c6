-- Which word truncation says; the promises of specs/Exactly.antt; rows.
pub mod Truncating
pub mod Exactly
pub mod Rows
