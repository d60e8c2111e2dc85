use Rattle.std.proofs.Common.{◌≡◌, map, slice_index, All}
use Rattle.std.specs.List.{range_with_len}
use Rattle.mix_waves.specs.Choosing.{IsFineHop}
use Rattle.mix_waves.specs.Sending.{hop_at}
use Rattle.mix_waves.proofs.sending.path.Given as goal

-- the hops of the first so many layers
abbrev pub invariant-layers : goal.invariant-layers
invariant-layers l =
    (l.path.items ≡ map (λ layer. hop_at l.config l.keys layer (slice_index l.words layer) (slice_index l.delays layer)) (range_with_len 0 l.layer))
    × All (IsFineHop l.config) l.path.items
