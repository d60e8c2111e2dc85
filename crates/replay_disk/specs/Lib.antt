-- To be believed, in this order: Disk (the model), Moments (every moment of a call), Failing and MemoryRack (the rack in
-- memory). Kept, MemoryDisk and WriteLog have words that only private functions and proofs use.
pub mod Disk
pub mod Failing
pub mod Kept
pub mod MemoryDisk
pub mod MemoryRack
pub mod Moments
pub mod WriteLog
