use Rattle.std.proofs.Common.{sym, subst, ◌∙◌}
use Rattle.node_actors.proofs.Connecting.{connecting_then}
use Rattle.node_actors.proofs.Seating.{same_locks}
use Rattle.node_actors.proofs.actors.connecting.Connector.round.Goals as goal

pub visit-requires-clause-moment : goal.visit-requires-clause-moment
visit-requires-clause-moment g c = subst (λ (clock : g.row.C.Denot). g.C.Clock.may_give clock c.args.moment) (sym c.loop-shard.invariant.goes_on.clock) c.requires

pub loop-shard-preserved : goal.loop-shard-preserved
loop-shard-preserved g c =
    let seat = c.loop-shard.self.taker.seat in
    let new = c.visit.new.self.taker.seat in
    record {
      goes_on = connecting_then _ _ _ c.loop-shard.invariant.goes_on c.visit.ensures;
      many = c.loop-shard.invariant.many ∙ sym (same_locks seat new c.visit.ensures.nothing.same);
    }
