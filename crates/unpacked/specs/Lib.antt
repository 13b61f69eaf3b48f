pub mod Number
pub mod Cuts
pub mod Exact
pub mod Corners
