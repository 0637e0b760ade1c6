-- The follower and the DC blocker; document 01's frequencies.
pub mod Follower
pub mod Blocker
pub mod Frequencies
