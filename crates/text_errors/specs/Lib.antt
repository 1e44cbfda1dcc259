pub mod ErrorLine
