pub mod Turns
pub mod Marked
pub mod Writing
pub mod Answers
