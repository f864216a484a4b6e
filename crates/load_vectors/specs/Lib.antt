pub mod Shapes
pub mod Tallies
