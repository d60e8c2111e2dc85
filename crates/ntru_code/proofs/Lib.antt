pub mod Digits
pub mod Soundness
pub mod Spelled
pub mod Reading
pub mod Groups
