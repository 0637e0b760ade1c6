-- What a reader believes of the stages once their promises are proved: a page a stage.
pub mod Shared
pub mod Answered
pub mod Lone
pub mod NoiseGate
pub mod Program
pub mod Clipper
pub mod Equaliser
pub mod ToneStack
pub mod Saturator
pub mod LevellerCalls
pub mod Leveller
pub mod Signal
