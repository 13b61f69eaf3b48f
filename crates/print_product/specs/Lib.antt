pub mod Digits
pub mod Lines
pub mod Input
pub mod Printed
pub mod Put
pub mod Streams
