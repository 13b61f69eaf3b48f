pub mod Gauged
pub mod Value
pub mod History
