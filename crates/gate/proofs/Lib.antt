-- What the proofs of the program's functions share: a block's turn, and a run of turns; the same of the bytes of its input and its output.
pub mod Turns
pub mod Whole
pub mod Carried
pub mod CarriedAll
