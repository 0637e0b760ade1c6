-- What silence means: a gate carried through calls, demand 3, and how long it has been quiet.
pub mod History
pub mod Demand3
pub mod Quiet
