pub mod Cells
pub mod Lanes
pub mod Parts
pub mod Occurrences
pub mod Chunks
pub mod Examples
