pub mod Drained
pub mod Moving
pub mod Posting
mod Settling
pub mod Tallies
pub mod Turning
pub mod Seating
pub mod Fating
pub mod Working
pub mod Leavings
pub mod Listening
pub mod Sending
pub mod TakeLogs
pub mod Accepted
pub mod Moments
pub mod HandedOn
pub mod Connecting
