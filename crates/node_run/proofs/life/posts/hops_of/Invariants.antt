use Rattle.std.proofs.Common.{◌≡◌, map, take}
use Rattle.node_run.proofs.life.posts.hops_of.Given as goal

abbrev pub invariant-loop-hop : goal.invariant-loop-hop
invariant-loop-hop g l = l.hops.items ≡ map (λ link. link.0) (take l.hop-index l.outgoing)
