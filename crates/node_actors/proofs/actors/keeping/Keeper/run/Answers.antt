use Rattle.std.proofs.Common.{List, subst, sym, ℕ}
use Rattle.node_actors.specs.Connecting.{GoesOnKeeping, KeeperState}
use Rattle.node_actors.specs.Handing.{KeepsLocal}
use Rattle.node_actors.specs.Seats.{MovesAt}
use Rattle.node_actors.proofs.actors.keeping.Keeper.run.Goals as goal

pub returns-clause-seat : goal.returns-clause-seat
returns-clause-seat g c = (subst (λ (t : KeeperState g.row.C.Denot). GoesOnKeeping c.args.self t) (sym c.self.view_is) c.serve.ensures).nothing

pub returns-clause-moves : goal.returns-clause-moves
returns-clause-moves g c =
    let served = subst (λ (t : KeeperState g.row.C.Denot). GoesOnKeeping c.args.self t) (sym c.self.view_is) c.serve.ensures in
    subst (λ (clock : g.row.C.Denot). MovesAt (g.C.Clock.may_give clock) c.self.inside.seat.passes) served.clock c.self.invariant.moves

pub returns-clause-keeps : goal.returns-clause-keeps
returns-clause-keeps g c =
    let served = subst (λ (t : KeeperState g.row.C.Denot). GoesOnKeeping c.args.self t) (sym c.self.view_is) c.serve.ensures in
    subst (λ (hops : List (List ℕ)). KeepsLocal hops c.self.inside.local.items c.self.inside.log.items) served.hops c.self.invariant.keeps
