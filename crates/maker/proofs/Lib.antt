pub mod AgainstCases
mod Acting
mod Opening
mod Zeros
pub mod Determined
