-- What contracts see. Of a spawner and of what it answers: Spawners. Of a queue and its two ends: Queues.
-- Of an actor, over its own calls alone, in this order: Calls, the entries of a tale by what was called; Turns, one turn at a
-- shard; Seats, a caller's passes to all shards; Fates, Packets and Takings, its logs; Listening and Working, a listener and
-- a worker on their way; Leaving, Logging and Acting, what an actor leaves, by its kind. Found has what a connector finds at a shard.
-- For the proof alone: Gates, what the threads of one call know; QueueRule, the rule that a queue keeps.
pub mod Acting
pub mod Calls
pub mod Connecting
pub mod Fates
pub mod Found
pub mod Gates
pub mod Handing
pub mod Leaving
pub mod Listening
pub mod Logging
pub mod Packets
pub mod QueueRule
pub mod Queues
pub mod Seats
pub mod Spawners
pub mod Takings
pub mod Turns
pub mod Working
