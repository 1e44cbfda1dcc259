pub mod AgainstCases
pub mod Laws
pub mod SessionTexts
