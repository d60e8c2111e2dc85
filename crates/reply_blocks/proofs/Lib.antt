pub mod BlockParts
pub mod Undoing
pub mod Returning
