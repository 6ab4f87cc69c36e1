pub mod Members
pub mod Borders
pub mod Spanning
