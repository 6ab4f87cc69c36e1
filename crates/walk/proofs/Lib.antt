pub mod Entries
pub mod KeywordNumbers
pub mod Places
pub mod Counts
pub mod FileChoices
pub mod CellText
pub mod Crossings
