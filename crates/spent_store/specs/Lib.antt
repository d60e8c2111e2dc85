-- To be believed, in this order: Root (what root records say), Books (the book of three areas), Changes (its changes, step
-- by step), Journals (the journal and its rules), Stores (a store on a rack), Seen and Faults (what is told). TagLogs is cited
-- by Stores. Kept, Found and Joined have words that only private functions and proofs use.
pub mod Books
pub mod Changes
pub mod Faults
pub mod Found
pub mod Joined
pub mod Journals
pub mod Kept
pub mod Root
pub mod Seen
pub mod Stores
pub mod TagLogs
