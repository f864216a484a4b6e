pub mod Layers
pub mod Queues
pub mod Filling
pub mod Waiting
pub mod Members
pub mod Rooms
pub mod Breaks
