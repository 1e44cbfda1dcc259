pub mod Rendered
pub mod Told
pub mod Cases
