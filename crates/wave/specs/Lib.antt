-- Recordings as WAVE files: what a reader answers and how it reads; what a recording is; what reading promises.
pub mod Answers
pub mod Reading
pub mod Steps
pub mod Grammar
pub mod Recordings
