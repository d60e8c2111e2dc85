pub mod Drawing
pub mod Members
