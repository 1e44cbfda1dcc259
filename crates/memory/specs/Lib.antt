pub mod Image
pub mod Buffer
pub mod Filled
