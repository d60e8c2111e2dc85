-- An empty disk in memory is at rest.
use Rattle.std.proofs.Common.{◌≡◌, ℕ, zero, suc, [], refl}
use Rattle.replay_disk.specs.Disk.{AreAtRest, area_at, settled}
use Rattle.replay_disk.specs.MemoryRack.{at_first}
use Rattle.replay_disk.proofs.Laws.{rests_settled}

settled_empty : (area : ℕ) → area_at area (at_first [] [] []).areas ≡ settled []
settled_empty zero = refl
settled_empty (suc zero) = refl
settled_empty (suc (suc area)) = refl

pub empty_rests : AreAtRest (at_first [] [] []).areas
empty_rests area within = rests_settled (at_first [] [] []).areas area [] (settled_empty area)
