pub mod Calls
pub mod Moves
pub mod Cases
