pub mod Reason
pub mod Refusal
pub mod Answer
pub mod Sizes
