pub mod Windowing
