pub mod Act
pub mod Cases
