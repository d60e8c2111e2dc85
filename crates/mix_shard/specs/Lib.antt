-- To be believed, in this order: LiveKeys (a packet under live keys), Items (what a shard holds), Entries and Tale (what was
-- done to it), Shards (a shard, its calls and what holds at all times), Faults (what is seen of a refusal), Laws (what follows
-- of what was accepted). Kept has words of private functions and proofs alone.
pub mod Entries
pub mod Faults
pub mod Items
pub mod Kept
pub mod Laws
pub mod LiveKeys
pub mod Origins
pub mod Shards
pub mod Tale
