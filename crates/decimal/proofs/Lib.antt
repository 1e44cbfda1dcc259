pub mod Digits
pub mod Reading
