-- What a shard began as, spelled in lists of numbers, for those who hand it from caller to caller.
use Rattle.std.specs.Prelude.{ℕ, List, [], ◌∷◌}
use Rattle.mix_shard.specs.Shards.{ShardState}

-- its terms and the rack's faults when it was made; its seed; the contents of its areas when the tale began; and the numbers
-- that its rack was armed and crashed by
abbrev pub origin_of : ShardState → List (List ℕ)
origin_of shard =
    let terms = shard.terms in
    let setup = terms.setup in
    (terms.shape.shards ∷ terms.shape.index ∷ setup.geometry.ct ∷ setup.geometry.hops ∷ setup.geometry.body
    ∷ setup.times.epoch ∷ setup.times.grace ∷ terms.limit ∷ terms.callers ∷ shard.faults ∷ [])
    ∷ setup.seed
    ∷ shard.first.areas.root.contents ∷ shard.first.areas.one.contents ∷ shard.first.areas.two.contents
    ∷ shard.rack.arms ∷ shard.rack.crashes ∷ []
