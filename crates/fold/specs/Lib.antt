-- A block is its samples one after the other.
pub mod Fold
