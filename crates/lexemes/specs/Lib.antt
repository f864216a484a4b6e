pub mod Scan
pub mod ByteClasses
