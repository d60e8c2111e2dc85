use Rattle.std.proofs.Common.{◌<◌, length, subst, sym}
use Rattle.node_actors.specs.Seats.{SeatState}
use Rattle.node_actors.proofs.Seating.{acts_at, idle_at, over_at, pass_at, seated_at}
use Rattle.node_actors.proofs.actors.seats.Seat.end.Goals as goal

pub end-requires-clause-idle : goal.end-requires-clause-idle
end-requires-clause-idle g c =
    let seat : SeatState = record { locks = c.self.inside.locks.now; setup = c.self.inside.setup; caller = c.self.inside.caller; passes = c.self.inside.passes.items } in
    let low = subst (λ (s : SeatState). c.args.shard < length s.locks) (sym c.self.view_is) c.requires.shard in
    idle_at seat c.args.shard c.index-self-shard.result c.index_mut-pass.result.now c.self.invariant low c.index_mut-pass.ensures.value

pub end-requires-clause-caller : goal.end-requires-clause-caller
end-requires-clause-caller g c =
    let seat : SeatState = record { locks = c.self.inside.locks.now; setup = c.self.inside.setup; caller = c.self.inside.caller; passes = c.self.inside.passes.items } in
    let low = subst (λ (s : SeatState). c.args.shard < length s.locks) (sym c.self.view_is) c.requires.shard in
    (over_at seat c.args.shard c.index-self-shard.result c.index_mut-pass.result.now c.self.invariant low c.index_mut-pass.ensures.value).caller_is

pub invariant_of-self : goal.invariant_of-self
invariant_of-self g c =
    let seat : SeatState = record { locks = c.self.inside.locks.now; setup = c.self.inside.setup; caller = c.self.inside.caller; passes = c.self.inside.passes.items } in
    let low = subst (λ (s : SeatState). c.args.shard < length s.locks) (sym c.self.view_is) c.requires.shard in
    seated_at seat c.args.shard c.index-self-shard.result c.index_mut-pass.result.now c.self.invariant low c.index_mut-pass.ensures.value _ c.end.new.pass c.end.ensures

pub returns : goal.returns
returns g c =
    let seat : SeatState = record { locks = c.self.inside.locks.now; setup = c.self.inside.setup; caller = c.self.inside.caller; passes = c.self.inside.passes.items } in
    let low = subst (λ (s : SeatState). c.args.shard < length s.locks) (sym c.self.view_is) c.requires.shard in
    rw (← c.self.view_is) (acts_at seat c.args.shard c.index-self-shard.result c.index_mut-pass.result.now c.self.invariant low c.index_mut-pass.ensures.value _ c.end.new.pass c.end.ensures)

pub end-requires-clause-open : goal.end-requires-clause-open
end-requires-clause-open g c =
    let seat : SeatState = record { locks = c.self.inside.locks.now; setup = c.self.inside.setup; caller = c.self.inside.caller; passes = c.self.inside.passes.items } in
    let low = subst (λ (s : SeatState). c.args.shard < length s.locks) (sym c.self.view_is) c.requires.shard in
    (rw (← c.self.view_is) at c.requires.open) c.index_mut-pass.result.now (pass_at seat c.args.shard c.index-self-shard.result c.index_mut-pass.result.now c.self.invariant low c.index_mut-pass.ensures.value)
