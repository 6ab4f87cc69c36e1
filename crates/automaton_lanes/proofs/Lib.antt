pub mod Four
pub mod Quarters
