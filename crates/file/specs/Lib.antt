pub mod Opening
pub mod Cases
