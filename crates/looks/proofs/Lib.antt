pub mod AgainstCases
mod Ones
