pub mod Parse
pub mod Classes
pub mod Layout
pub mod Grammar
pub mod Pieces
pub mod Reader
pub mod Answer
pub mod Examples
