pub mod Grown
pub mod Standing
pub mod Sorted
pub mod Filled
pub mod Judged
