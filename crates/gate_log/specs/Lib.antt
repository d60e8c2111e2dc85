-- To be believed, in this order: Records (what bytes stand for), Log (a log and what its calls leave), Faults. Scanning has
-- words that only private functions and proofs use.
pub mod Faults
pub mod Log
pub mod Records
pub mod Scanning
