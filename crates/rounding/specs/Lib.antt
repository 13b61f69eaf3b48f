pub mod Format
pub mod Rounding
pub mod Property
pub mod Pattern
pub mod Quotient
