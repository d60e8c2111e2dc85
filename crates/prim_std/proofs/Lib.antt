pub mod Expansion
pub mod KeyStream
