pub mod Faults
pub mod Converting
pub mod Back
pub mod Clearing
