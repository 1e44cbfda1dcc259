pub mod AgainstCases
pub mod Plain
