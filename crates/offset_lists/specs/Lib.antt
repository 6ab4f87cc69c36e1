pub mod Patches
pub mod Runs
