pub mod AgainstTable
pub mod Numbers
pub mod PastLast
pub mod Rows
