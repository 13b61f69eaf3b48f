pub mod Puts
pub mod DigitLaws
pub mod LineLaws
pub mod InputLaws
pub mod Answers
pub mod Cuts
pub mod Reading
pub mod Examples
