-- Recordings written as WAVE files: what a writer answers, what it writes, and what writing promises.
pub mod Answers
pub mod Writing
pub mod RoundTrips
pub mod Streaming
