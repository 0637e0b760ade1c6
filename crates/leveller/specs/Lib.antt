-- The leveller: what 9 accepts, and the calls.
pub mod Bounds
pub mod Calls
pub mod AsStage
