-- The clipper: the triode's table, one sample, a block.
pub mod Table
pub mod Process
pub mod Block
