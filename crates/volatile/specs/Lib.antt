pub mod Packed
pub mod Inner
pub mod Cases
