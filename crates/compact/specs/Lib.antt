pub mod Marking
pub mod Writing
