-- The nearest square root: its definition, what it promises, rows of roots; then what its steps compute.
pub mod Root
pub mod Nearest
pub mod Rows
pub mod Steps
