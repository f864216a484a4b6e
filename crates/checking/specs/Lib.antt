pub mod Counted
pub mod Checked
pub mod Extents
