-- The equaliser: its states, the calls.
pub mod States
pub mod Calls
pub mod AsStage
