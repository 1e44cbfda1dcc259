pub mod Orders
pub mod Faults
