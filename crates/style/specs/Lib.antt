pub mod Standing
pub mod Breaks
pub mod Found
