pub mod Inside
pub mod Bytes
