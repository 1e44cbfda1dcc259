pub mod Calls
pub mod Inside
pub mod Cases
