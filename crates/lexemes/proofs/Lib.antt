pub mod Laws
pub mod Ties
pub mod Lexed
pub mod Blocks
