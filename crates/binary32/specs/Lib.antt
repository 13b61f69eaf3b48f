pub mod Number
pub mod Operations
pub mod Order
pub mod Steps
pub mod Directions
pub mod DirectionProofs
