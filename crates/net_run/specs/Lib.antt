-- A run of a network.
pub mod Reading
pub mod Sites
pub mod Racks
pub mod Opening
pub mod Plans
pub mod Nodes
pub mod Lines
pub mod Feeds
pub mod Tallies
pub mod Seats
pub mod Refilling
pub mod Parting
pub mod Living
