pub mod Lines
pub mod Buffer
pub mod Session
pub mod Cases
pub mod Told
