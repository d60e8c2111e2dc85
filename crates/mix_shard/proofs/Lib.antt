mod Chains
mod Changes
mod Claims
pub mod Covering
mod Draining
pub mod Holding
mod Keeping
mod Openings
mod Rooms
mod Spares
pub mod Tales
