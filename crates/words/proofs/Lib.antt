pub mod Bounds
pub mod Digits
pub mod Lines
pub mod Rows
pub mod Scans
pub mod Table
pub mod Tests
