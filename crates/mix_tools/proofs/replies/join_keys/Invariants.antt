use Rattle.std.proofs.Common.{◌≡◌, ◌++◌, drop}
use Rattle.std.specs.List.{flat_map}
use Rattle.mix_tools.proofs.replies.join_keys.Given as goal

-- the bytes so far, and those of the keys to come, are all
abbrev pub invariant-hops : goal.invariant-hops
invariant-hops l = l.bytes.items ++ flat_map (λ key. key) (drop l.key-index l.key-items) ≡ flat_map (λ key. key) l.keys.hops.items
