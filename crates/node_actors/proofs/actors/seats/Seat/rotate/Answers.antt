use Rattle.std.proofs.Common.{◌<◌, length, subst, sym, ◌∙◌, arith}
use Rattle.mix_shard.specs.declared.entries.Told.{Told}
use Rattle.turn_lock.specs.Seen.{Caller, Lock}
use Rattle.node_actors.specs.Calls.{IsSpent, terms_in}
use Rattle.node_actors.specs.Seats.{SeatState}
use Rattle.node_actors.proofs.Seating.{acts_at, get_set_same, idle_at, lock_at, over_at, seated_at, some_same}
use Rattle.node_actors.proofs.actors.seats.Seat.rotate.Goals as goal

pub rotate-requires-clause-idle : goal.rotate-requires-clause-idle
rotate-requires-clause-idle g c =
    let seat : SeatState = record { locks = c.self.inside.locks.now; setup = c.self.inside.setup; caller = c.self.inside.caller; passes = c.self.inside.passes.items } in
    let low = subst (λ (s : SeatState). c.args.shard < length s.locks) (sym c.self.view_is) c.requires.shard in
    idle_at seat c.args.shard c.index-self-shard.result c.index_mut-pass.result.now c.self.invariant low c.index_mut-pass.ensures.value

pub rotate-requires-clause-caller : goal.rotate-requires-clause-caller
rotate-requires-clause-caller g c =
    let seat : SeatState = record { locks = c.self.inside.locks.now; setup = c.self.inside.setup; caller = c.self.inside.caller; passes = c.self.inside.passes.items } in
    let low = subst (λ (s : SeatState). c.args.shard < length s.locks) (sym c.self.view_is) c.requires.shard in
    (over_at seat c.args.shard c.index-self-shard.result c.index_mut-pass.result.now c.self.invariant low c.index_mut-pass.ensures.value).caller_is

pub invariant_of-self : goal.invariant_of-self
invariant_of-self g c =
    let seat : SeatState = record { locks = c.self.inside.locks.now; setup = c.self.inside.setup; caller = c.self.inside.caller; passes = c.self.inside.passes.items } in
    let low = subst (λ (s : SeatState). c.args.shard < length s.locks) (sym c.self.view_is) c.requires.shard in
    seated_at seat c.args.shard c.index-self-shard.result c.index_mut-pass.result.now c.self.invariant low c.index_mut-pass.ensures.value _ c.rotate.new.pass c.rotate.ensures.turn

pub returns-clause-acts : goal.returns-clause-acts
returns-clause-acts g c =
    let seat : SeatState = record { locks = c.self.inside.locks.now; setup = c.self.inside.setup; caller = c.self.inside.caller; passes = c.self.inside.passes.items } in
    let low = subst (λ (s : SeatState). c.args.shard < length s.locks) (sym c.self.view_is) c.requires.shard in
    rw (← c.self.view_is) (acts_at seat c.args.shard c.index-self-shard.result c.index_mut-pass.result.now c.self.invariant low c.index_mut-pass.ensures.value _ c.rotate.new.pass c.rotate.ensures.turn)

pub returns-clause-drained : goal.returns-clause-drained
returns-clause-drained g c = rw (← c.self.view_is) (λ lock pass lock_is pass_is drained.
    let seat : SeatState = record { locks = c.self.inside.locks.now; setup = c.self.inside.setup; caller = c.self.inside.caller; passes = c.self.inside.passes.items } in
    let low = subst (λ (s : SeatState). c.args.shard < length s.locks) (sym c.self.view_is) c.requires.shard in
    let many = c.self.invariant.many in
    let here = lock_at seat c.args.shard c.index-self-shard.result c.index_mut-pass.result.now c.self.invariant low c.index_mut-pass.ensures.value in
    let same_lock = some_same _ lock (sym here ∙ lock_is) in
    let same_pass = some_same c.rotate.new.pass pass (sym (get_set_same c.self.inside.passes.items c.args.shard c.rotate.new.pass (omega arith)) ∙ pass_is) in
    subst (λ (z : Lock Told × Caller Told). IsSpent (terms_in z.0.origin).callers z.1.seen) (λ k. (same_lock k, same_pass k)) (c.rotate.ensures.drained drained))
