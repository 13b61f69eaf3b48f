pub mod Order
pub mod Absolute
pub mod Extremes
pub mod Sum
