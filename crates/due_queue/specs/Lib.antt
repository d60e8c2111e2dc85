-- To be read in this order: Destinations, Queues. Inside has words that only the queue's own body uses.
pub mod Destinations
pub mod Inside
pub mod Queues
