-- The noise gate: document 01's figures, what 9 accepts, what a setting and a block tell, the calls, the gate as a stage.
pub mod Figures
pub mod Bounds
pub mod Answers
pub mod Calls
pub mod AsStage
