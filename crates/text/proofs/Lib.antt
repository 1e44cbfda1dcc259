mod Answering
mod Bytes
mod Determined
mod Driving
pub mod Fitting
mod LineByLine
mod Opening
mod Sections
mod Soundness
