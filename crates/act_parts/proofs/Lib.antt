pub mod AgainstCases
mod Lists
