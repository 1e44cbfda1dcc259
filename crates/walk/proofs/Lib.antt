pub mod AgainstCases
pub mod AtOnce
