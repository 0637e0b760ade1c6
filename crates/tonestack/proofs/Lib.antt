-- The models' numbers.
pub mod Models
