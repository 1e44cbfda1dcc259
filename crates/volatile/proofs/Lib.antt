pub mod AgainstCases
pub mod Between
pub mod Packing
pub mod Edges
pub mod Sums
pub mod Readable
pub mod PlainlySound
