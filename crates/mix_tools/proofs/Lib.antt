pub mod AnsweredRequests
pub mod BlockKeyBytes
pub mod MadePackets
pub mod Refusals
