-- The laws of a block.
pub mod Block
pub mod Parts
pub mod Row
