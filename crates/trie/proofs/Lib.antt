pub mod Endings
pub mod Nodes
pub mod Steps
pub mod Walks
pub mod Records
pub mod Distinct
pub mod Numbering
pub mod Examples
