pub mod Cells
pub mod Operations
pub mod Conversions
pub mod RunningValue
