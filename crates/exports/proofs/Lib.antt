pub mod AgainstCases
mod Determined
mod Shown
mod Walked
