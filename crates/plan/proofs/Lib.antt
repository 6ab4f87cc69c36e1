pub mod FileLaws
pub mod LengthLaws
pub mod RowLaws
pub mod CountLaws
pub mod Surveys
pub mod Stages
pub mod Bounds
