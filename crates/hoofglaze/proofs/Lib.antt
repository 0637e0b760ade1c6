-- What a stage's call, a gate's setting and its block answer, where they cross.
pub mod Answers
