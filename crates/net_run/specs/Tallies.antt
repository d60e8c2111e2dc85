-- How many packets were taken out of a shard, by its tale.
use Rattle.std.specs.Prelude.{ℕ, Bool, true, false, List, count_by}
use Rattle.mix_shard.specs.declared.entries.Entry.{Entry}
use Rattle.mix_shard.specs.declared.entries.Entry.TheVariants.{Claim, Take, Rotate, Done, Reopened}

-- a packet was taken out
abbrev pub is_take : Entry → Bool
is_take (Claim caller number epoch tag at answer) = false
is_take (Take caller number dest moment) = true
is_take (Rotate caller moment answer) = false
is_take (Done caller) = false
is_take (Reopened caller floor pairs) = false

-- how many were
abbrev pub takes_in : List Entry → ℕ
takes_in tale = count_by is_take tale
