pub mod Forest
pub mod Edits
pub mod Asks
pub mod Links
