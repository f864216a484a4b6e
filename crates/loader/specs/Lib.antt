pub mod Kinds
pub mod Sites
pub mod Loaded
