-- To be read: Counts. Opened has words that only private functions use.
pub mod Counts
pub mod Opened
