pub mod Entries
pub mod FirstDue
