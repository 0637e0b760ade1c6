-- Document 01's proved table as one list, and what it means that the list holds.
pub mod Table
