use Rattle.std.proofs.Common.{List, arith, subst, sym, ◌∙◌}
use Rattle.mix_shard.specs.declared.entries.Told.{Told}
use Rattle.node_actors.specs.Turns.{IsRotatedAt}
use Rattle.node_actors.proofs.Seating.{acts_same, get_low, nothing_more, rotated_claims, same_locks, spent_more}
use Rattle.node_actors.proofs.actors.rotating.Rotator.round.Goals as goal

pub visit-requires-clause-moment : goal.visit-requires-clause-moment
visit-requires-clause-moment g c = subst (λ (clock : g.row.C.Denot). g.C.Clock.may_give clock c.args.moment) (sym c.loop-shard.invariant.kept.clock) c.requires.moment

pub loop-shard-preserved : goal.loop-shard-preserved
loop-shard-preserved g c =
    let acts = c.visit.ensures.acts in
    let before = c.loop-shard.invariant in
    let seat = c.loop-shard.self.seat in
    let new = c.visit.new.self.seat in
    let shard = c.loop-shard.shard in
    let Own : List Told → Type 0 = IsRotatedAt seat.caller c.args.moment in
    record {
      kept = record {
        nothing = nothing_more c.args.self.now.seat seat new shard Own (λ own h. rotated_claims seat.caller c.args.moment own h) before.kept.nothing acts;
        clock = c.visit.ensures.clock ∙ before.kept.clock;
      };
      many = before.many ∙ sym (same_locks seat new (acts_same shard Own seat new acts));
      spent = λ drained. spent_more seat new shard Own acts (before.spent (c.both-drained.ensures.first drained))
          (λ lock pass lock_is pass_is. c.visit.ensures.drained lock pass lock_is pass_is (c.both-drained.ensures.second drained));
    }

pub returns-clause-drained : goal.returns-clause-drained
returns-clause-drained g c = λ drained i lock pass lock_is pass_is.
    let low = get_low c.loop-shard.self.seat.locks i lock lock_is in
    let many = c.loop-shard.invariant.many in
    c.loop-shard.invariant.spent drained i lock pass (omega (arith, low, many, c.loop-shard-test.false)) lock_is pass_is
