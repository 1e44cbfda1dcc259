pub mod AgainstCases
pub mod Laws
pub mod Lengths
pub mod Determined
