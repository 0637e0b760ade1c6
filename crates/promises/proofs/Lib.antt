-- The promises' proofs, a page a stage.
mod Order
mod Apart
pub mod Shared
pub mod Answered
pub mod Lone
pub mod NoiseGate
pub mod Program
pub mod Clipper
pub mod Equaliser
pub mod ToneStack
pub mod Saturator
pub mod Leveller
pub mod Signal
