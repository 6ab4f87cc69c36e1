pub mod Endings
pub mod Numbers
