pub mod ByNumber
pub mod Fitting
mod Choices
mod Counted
mod ZoneBytes
