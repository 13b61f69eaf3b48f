pub mod Conversion
pub mod Slices
