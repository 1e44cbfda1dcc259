pub mod AgainstCases
pub mod Laws
