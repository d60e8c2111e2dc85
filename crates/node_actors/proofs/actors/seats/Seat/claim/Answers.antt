use Rattle.std.proofs.Common.{◌<◌, length, ap, subst, sym, ◌∙◌}
use Rattle.node_actors.specs.Seats.{SeatState}
use Rattle.node_actors.proofs.Seating.{acts_at, idle_at, over_at, pass_at, seated_at}
use Rattle.node_actors.proofs.actors.seats.Seat.claim.Goals as goal

pub claim-requires-clause-idle : goal.claim-requires-clause-idle
claim-requires-clause-idle g c =
    let seat : SeatState = record { locks = c.self.inside.locks.now; setup = c.self.inside.setup; caller = c.self.inside.caller; passes = c.self.inside.passes.items } in
    let low = subst (λ (s : SeatState). c.args.shard < length s.locks) (sym c.self.view_is) c.requires.shard in
    idle_at seat c.args.shard c.index-self-shard.result c.index_mut-pass.result.now c.self.invariant low c.index_mut-pass.ensures.value

pub claim-requires-clause-caller : goal.claim-requires-clause-caller
claim-requires-clause-caller g c =
    let seat : SeatState = record { locks = c.self.inside.locks.now; setup = c.self.inside.setup; caller = c.self.inside.caller; passes = c.self.inside.passes.items } in
    let low = subst (λ (s : SeatState). c.args.shard < length s.locks) (sym c.self.view_is) c.requires.shard in
    (over_at seat c.args.shard c.index-self-shard.result c.index_mut-pass.result.now c.self.invariant low c.index_mut-pass.ensures.value).caller_is

pub invariant_of-self : goal.invariant_of-self
invariant_of-self g c =
    let seat : SeatState = record { locks = c.self.inside.locks.now; setup = c.self.inside.setup; caller = c.self.inside.caller; passes = c.self.inside.passes.items } in
    let low = subst (λ (s : SeatState). c.args.shard < length s.locks) (sym c.self.view_is) c.requires.shard in
    seated_at seat c.args.shard c.index-self-shard.result c.index_mut-pass.result.now c.self.invariant low c.index_mut-pass.ensures.value _ c.claim.new.pass c.claim.ensures

pub returns : goal.returns
returns g c =
    let seat : SeatState = record { locks = c.self.inside.locks.now; setup = c.self.inside.setup; caller = c.self.inside.caller; passes = c.self.inside.passes.items } in
    let low = subst (λ (s : SeatState). c.args.shard < length s.locks) (sym c.self.view_is) c.requires.shard in
    rw (← c.self.view_is) (acts_at seat c.args.shard c.index-self-shard.result c.index_mut-pass.result.now c.self.invariant low c.index_mut-pass.ensures.value _ c.claim.new.pass c.claim.ensures)

pub claim-requires-clause-open : goal.claim-requires-clause-open
claim-requires-clause-open g c =
    let seat : SeatState = record { locks = c.self.inside.locks.now; setup = c.self.inside.setup; caller = c.self.inside.caller; passes = c.self.inside.passes.items } in
    let low = subst (λ (s : SeatState). c.args.shard < length s.locks) (sym c.self.view_is) c.requires.shard in
    (rw (← c.self.view_is) at c.requires.open) c.args.shard c.index_mut-pass.result.now (pass_at seat c.args.shard c.index-self-shard.result c.index_mut-pass.result.now c.self.invariant low c.index_mut-pass.ensures.value)

pub claim-requires-clause-setup : goal.claim-requires-clause-setup
claim-requires-clause-setup g c =
    let seat : SeatState = record { locks = c.self.inside.locks.now; setup = c.self.inside.setup; caller = c.self.inside.caller; passes = c.self.inside.passes.items } in
    let low = subst (λ (s : SeatState). c.args.shard < length s.locks) (sym c.self.view_is) c.requires.shard in
    c.requires.setup ∙ (ap (λ (s : SeatState). s.setup) (sym c.self.view_is) ∙ sym (over_at seat c.args.shard c.index-self-shard.result c.index_mut-pass.result.now c.self.invariant low c.index_mut-pass.ensures.value).setup_is)
