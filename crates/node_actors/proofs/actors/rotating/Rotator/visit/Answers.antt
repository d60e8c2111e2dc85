use Rattle.std.proofs.Common.{arith, List, subst, sym}
use Rattle.mix_shard.specs.declared.entries.Told.{Told}
use Rattle.node_actors.specs.Turns.{IsRotatedAt}
use Rattle.node_actors.proofs.Moments.{moves_on, rotated_moments}
use Rattle.node_actors.proofs.Seating.{acts_same, same_locks}
use Rattle.node_actors.proofs.TakeLogs.{rotated_takes, takes_none}
use Rattle.node_actors.proofs.actors.rotating.Rotator.visit.Goals as goal

pub invariant_of-self : goal.invariant_of-self
invariant_of-self g c =
    let seat = c.self.inside.seat in
    let new = c.rotate-found.new.self in
    let Own : List Told → Type 0 = IsRotatedAt seat.caller c.args.moment in
    let may = subst (λ (r : _). g.C.Clock.may_give r.clock c.args.moment) (sym c.self.view_is) c.requires.moment in
    let many = c.self.invariant.0 in
    let locks = same_locks seat new (acts_same c.args.shard Own seat new c.rotate-found.ensures.acts) in (
      omega (arith, many, locks),
      takes_none c.args.shard Own seat new c.rotate-found.ensures.acts (λ own h. rotated_takes seat.caller c.args.moment own h) c.self.invariant.1,
      moves_on (g.C.Clock.may_give c.self.inside.clock.now) c.args.shard Own seat new c.rotate-found.ensures.acts
          (λ own h. rotated_moments (g.C.Clock.may_give c.self.inside.clock.now) seat.caller c.args.moment own may h) c.self.invariant.2,
    )

pub returns-clause-drained : goal.returns-clause-drained
returns-clause-drained g c = rw (← c.self.view_is) c.rotate-found.ensures.drained
