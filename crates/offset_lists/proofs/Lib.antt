pub mod Patching
pub mod Filling
pub mod Joining
