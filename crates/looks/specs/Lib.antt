pub mod Flags
pub mod Reasons
pub mod Cases
