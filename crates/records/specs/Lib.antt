pub mod Summaries
pub mod Bodies
