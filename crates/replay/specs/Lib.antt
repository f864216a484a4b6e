pub mod Answers
pub mod Carried
pub mod Buffers
pub mod Replayed
