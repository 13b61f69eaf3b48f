pub mod Answers
pub mod SizeLaws
