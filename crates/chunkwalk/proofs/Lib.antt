pub mod Walking
pub mod Equipping
