-- The tone stack's calls, and what it is as a stage.
pub mod Calls
pub mod AsStage
