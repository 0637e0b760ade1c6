-- What is a number; the alphas worked out once.
pub mod Numbers
pub mod Once
