pub mod StageLaws
pub mod CheckLaws
pub mod LookupLaws
