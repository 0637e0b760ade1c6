-- The loop over bytes two at a time, and what it leaves.
pub mod Pairs
