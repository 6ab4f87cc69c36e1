pub mod Rows
pub mod Loading
pub mod Fitting
