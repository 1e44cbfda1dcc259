pub mod AgainstCases
pub mod Answers
pub mod Determined
