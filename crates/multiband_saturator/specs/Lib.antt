-- The multiband saturator: what its calls tell, and what it is as a stage.
pub mod Calls
pub mod AsStage
