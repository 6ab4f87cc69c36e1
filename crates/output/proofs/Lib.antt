pub mod Runs
pub mod Decimals
pub mod Texts
pub mod Answers
pub mod Bounds
pub mod Programs
pub mod Cases
