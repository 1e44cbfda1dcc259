pub mod Turned
pub mod LineMasks
pub mod EdgeRefusals
pub mod ByLine
