pub mod Changing
pub mod Claiming
pub mod Crashing
pub mod HandOnLines
pub mod Making
pub mod Places
pub mod Sending
pub mod Waiting
