mod Closing
mod Keeps
pub mod Lists
mod Passes
pub mod Rounds
