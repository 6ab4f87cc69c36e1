pub mod Adding
pub mod Listed
