pub mod Bits
pub mod LogLaws
pub mod Tallying
pub mod Joins
pub mod Backwards
