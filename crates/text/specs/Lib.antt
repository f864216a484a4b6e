pub mod Events
pub mod Reports
pub mod Frames
