pub mod Steps
pub mod Check
