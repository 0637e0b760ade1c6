-- Document 01's proved table holds.
pub mod Table
