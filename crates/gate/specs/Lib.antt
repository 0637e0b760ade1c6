-- The program: what a turn and a run of turns leave, and what they do to its input and its output.
pub mod Runs
pub mod Carried
pub mod Line
