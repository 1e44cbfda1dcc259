pub mod AgainstCases
pub mod HandedOn
pub mod Walks
pub mod Loop
pub mod Answers
pub mod WithoutLoop
pub mod AsDefined
pub mod Determined
