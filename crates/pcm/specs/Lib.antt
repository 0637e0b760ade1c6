-- Signed 16-bit samples as document 01 reads them and document 02 (W5) writes them.
pub mod Figures
pub mod Samples
