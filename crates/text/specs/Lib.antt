pub mod Sheet
pub mod Meaning
pub mod Held
pub mod Assembling
