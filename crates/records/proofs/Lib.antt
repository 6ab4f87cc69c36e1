pub mod Starts
pub mod SetLaws
pub mod BodyLaws
pub mod Telling
pub mod Beginning
pub mod Whole
