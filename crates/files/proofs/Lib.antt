pub mod Measuring
pub mod Places
pub mod OfIndex
pub mod Slots
