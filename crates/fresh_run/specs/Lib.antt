pub mod FreshRun
pub mod Cases
pub mod SessionCases
