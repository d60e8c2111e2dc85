use Rattle.std.proofs.Common.{◌<◌, length, subst, sym}
use Rattle.node_actors.specs.Seats.{SeatState}
use Rattle.node_actors.proofs.Seating.{acts_at, accepted_at, idle_at, over_at, saw_at, seated_at, setup_at}
use Rattle.node_actors.proofs.actors.seats.Seat.take_out.Goals as goal

pub take_out-requires-clause-idle : goal.take_out-requires-clause-idle
take_out-requires-clause-idle g c =
    let seat : SeatState = record { locks = c.self.inside.locks.now; setup = c.self.inside.setup; caller = c.self.inside.caller; passes = c.self.inside.passes.items } in
    let low = subst (λ (s : SeatState). c.args.shard < length s.locks) (sym c.self.view_is) c.requires in
    idle_at seat c.args.shard c.index-self-shard.result c.index_mut-pass.result.now c.self.invariant low c.index_mut-pass.ensures.value

pub take_out-requires-clause-caller : goal.take_out-requires-clause-caller
take_out-requires-clause-caller g c =
    let seat : SeatState = record { locks = c.self.inside.locks.now; setup = c.self.inside.setup; caller = c.self.inside.caller; passes = c.self.inside.passes.items } in
    let low = subst (λ (s : SeatState). c.args.shard < length s.locks) (sym c.self.view_is) c.requires in
    (over_at seat c.args.shard c.index-self-shard.result c.index_mut-pass.result.now c.self.invariant low c.index_mut-pass.ensures.value).caller_is

pub invariant_of-self : goal.invariant_of-self
invariant_of-self g c =
    let seat : SeatState = record { locks = c.self.inside.locks.now; setup = c.self.inside.setup; caller = c.self.inside.caller; passes = c.self.inside.passes.items } in
    let low = subst (λ (s : SeatState). c.args.shard < length s.locks) (sym c.self.view_is) c.requires in
    seated_at seat c.args.shard c.index-self-shard.result c.index_mut-pass.result.now c.self.invariant low c.index_mut-pass.ensures.value _ c.take_out.new.pass c.take_out.ensures.turn

pub returns-clause-acts : goal.returns-clause-acts
returns-clause-acts g c =
    let seat : SeatState = record { locks = c.self.inside.locks.now; setup = c.self.inside.setup; caller = c.self.inside.caller; passes = c.self.inside.passes.items } in
    let low = subst (λ (s : SeatState). c.args.shard < length s.locks) (sym c.self.view_is) c.requires in
    rw (← c.self.view_is) (acts_at seat c.args.shard c.index-self-shard.result c.index_mut-pass.result.now c.self.invariant low c.index_mut-pass.ensures.value _ c.take_out.new.pass c.take_out.ensures.turn)

pub take_out-requires-clause-saw : goal.take_out-requires-clause-saw
take_out-requires-clause-saw g c =
    let seat : SeatState = record { locks = c.self.inside.locks.now; setup = c.self.inside.setup; caller = c.self.inside.caller; passes = c.self.inside.passes.items } in
    let low = subst (λ (s : SeatState). c.args.shard < length s.locks) (sym c.self.view_is) c.requires in
    saw_at seat c.args.shard c.index-self-shard.result c.index_mut-pass.result.now c.self.invariant low c.index_mut-pass.ensures.value

pub take_out-requires-clause-nothing_held : goal.take_out-requires-clause-nothing_held
take_out-requires-clause-nothing_held g c =
    let seat : SeatState = record { locks = c.self.inside.locks.now; setup = c.self.inside.setup; caller = c.self.inside.caller; passes = c.self.inside.passes.items } in
    let low = subst (λ (s : SeatState). c.args.shard < length s.locks) (sym c.self.view_is) c.requires in
    (over_at seat c.args.shard c.index-self-shard.result c.index_mut-pass.result.now c.self.invariant low c.index_mut-pass.ensures.value).nothing_held

pub returns-clause-accepted : goal.returns-clause-accepted
returns-clause-accepted g c =
    let seat : SeatState = record { locks = c.self.inside.locks.now; setup = c.self.inside.setup; caller = c.self.inside.caller; passes = c.self.inside.passes.items } in
    let low = subst (λ (s : SeatState). c.args.shard < length s.locks) (sym c.self.view_is) c.requires in
    rw (← c.self.view_is) (accepted_at seat c.args.shard c.index-self-shard.result c.index_mut-pass.result.now c.self.invariant low c.index_mut-pass.ensures.value c.take_out.new.pass
    c.take_out.result c.take_out.ensures.accepted)

pub returns-clause-setup : goal.returns-clause-setup
returns-clause-setup g c =
    let seat : SeatState = record { locks = c.self.inside.locks.now; setup = c.self.inside.setup; caller = c.self.inside.caller; passes = c.self.inside.passes.items } in
    let low = subst (λ (s : SeatState). c.args.shard < length s.locks) (sym c.self.view_is) c.requires in
    rw (← c.self.view_is) (setup_at seat c.args.shard c.index-self-shard.result c.index_mut-pass.result.now c.self.invariant low c.index_mut-pass.ensures.value c.take_out.result c.take_out.ensures.setup)
