pub mod Numbered
pub mod Words
pub mod Filled
pub mod Rows
pub mod Table
