pub mod Before
pub mod Cases
