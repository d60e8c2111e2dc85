pub mod Appending
pub mod Blocks
pub mod Gates
pub mod Moments
pub mod Outside
pub mod Scanning
pub mod Standing
