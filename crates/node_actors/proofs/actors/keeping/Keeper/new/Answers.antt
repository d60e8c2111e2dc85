use Rattle.std.proofs.Common.{List, subst, sym}
use Rattle.mix_shard.specs.Items.{Item}
use Rattle.node_actors.specs.Connecting.{HasKept}
use Rattle.node_actors.specs.declared.actors.takings.Taking.{Taking}
use Rattle.node_actors.proofs.Connecting.{kept_first}
use Rattle.node_actors.proofs.actors.keeping.Keeper.new.Goals as goal

pub invariant_of-result : goal.invariant_of-result
invariant_of-result g c =
    subst (λ (log : List (Taking Item)). HasKept g.S.Suite.meaning g.C.Clock.may_give (record { taker = record { seat = c.args.seat; log = log; unsent = 0 }; clock = c.args.clock.now; hops = c.args.hops.items; local = c.args.local.items }))
    (sym c.new.ensures) (kept_first g.S.Suite.meaning g.C.Clock.may_give c.args.seat c.args.clock.now c.args.hops.items c.args.local.items c.requires.nothing c.requires.local)
