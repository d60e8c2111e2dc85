use Rattle.std.proofs.Common.{◌≡◌, All, Some, length}
use Rattle.mix_waves.specs.Choosing.{IsKey}
use Rattle.mix_waves.specs.Network.{first_keys}
use Rattle.mix_waves.proofs.network.node_keys.Given as goal

-- the keys of the first so many nodes
abbrev pub invariant-nodes : goal.invariant-nodes
invariant-nodes g l =
    (first_keys l.config l.epoch l.number ≡ Some l.keys.items) × ((length l.keys.items ≡ l.number) × All (IsKey l.config) l.keys.items)
