pub mod Log
pub mod Tallies
