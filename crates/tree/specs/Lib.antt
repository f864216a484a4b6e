pub mod Sorts
pub mod Well
pub mod Trees
pub mod Places
pub mod Steps
pub mod Walks
pub mod Classes
pub mod Cleared
