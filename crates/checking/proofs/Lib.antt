pub mod Tallies
pub mod Verdicts
