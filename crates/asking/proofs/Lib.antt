pub mod Queries
