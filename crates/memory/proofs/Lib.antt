pub mod Below
pub mod Laws
pub mod Buffer
pub mod Determined
pub mod Filled
