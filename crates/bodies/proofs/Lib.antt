pub mod StepLaws
pub mod RecordChecks
pub mod Orders
pub mod KindChecks
pub mod Turns
