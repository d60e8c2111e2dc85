use Rattle.std.proofs.Common.{◌≡◌, map, drop}
use Rattle.std.specs.List.{list_any}
use Rattle.mix_waves.specs.Fates.{is_delivery}
use Rattle.mix_waves.proofs.fates.any_delivery.Given as goal

-- the packets to come decide
abbrev pub invariant-packets : goal.invariant-packets
invariant-packets l = list_any (is_delivery l.body) (map (λ out. out.now) (drop l.out-index l.local)) ≡ list_any (is_delivery l.body) (map (λ out. out.now) l.local)
