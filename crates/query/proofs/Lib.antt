pub mod LineBytes
pub mod Turns
pub mod AskedPlans
pub mod Answers
