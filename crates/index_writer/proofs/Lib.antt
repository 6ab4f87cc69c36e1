pub mod Regions
pub mod Parts
pub mod Turns
pub mod Moves
pub mod MarkLaws
