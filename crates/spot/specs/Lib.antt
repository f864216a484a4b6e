pub mod Spots
