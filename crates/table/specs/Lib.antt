pub mod Nodes
pub mod Writes
pub mod Sound
pub mod Tables
