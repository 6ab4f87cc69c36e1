pub mod Checks
pub mod Answers
pub mod Bound
pub mod Fits
pub mod Arrays
