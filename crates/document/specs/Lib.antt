pub mod Documents
pub mod Runs
