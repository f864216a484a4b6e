pub mod Gathered
pub mod Weights
pub mod Backwards
pub mod Summed
