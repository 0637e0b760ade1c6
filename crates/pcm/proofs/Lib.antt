-- What a machine's numbers say of a sample, and where a size lies among the whole numbers.
pub mod Signed
pub mod Whole
pub mod Reading
pub mod Return
