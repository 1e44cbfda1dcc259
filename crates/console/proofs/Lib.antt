pub mod Determined
mod Laws
mod Known
mod Line
