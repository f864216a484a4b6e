pub mod Spells
pub mod Telling
pub mod Trivia
pub mod Classed
pub mod Leaves
pub mod Nests
pub mod Firm
