use Rattle.node_actors.proofs.Leavings.{leaves_claims, leaves_moves}
use Rattle.node_actors.proofs.Moments.{moves_first}
use Rattle.node_actors.proofs.actors.crew.run_spare.Goals as goal

pub end_where_even-requires-clause-moves : goal.end_where_even-requires-clause-moves
end_where_even-requires-clause-moves g c = moves_first (λ moment. ⊥) c.args.spare.seat c.args.spare.nothing

pub returns : goal.returns
returns g c =
    let new = c.end_where_even.new.seat in
    let ended = c.end_where_even.ensures in (
      leaves_claims c.args.spare.seat new c.into_passes.result.items ended.claims.same c.into_passes.ensures.items c.into_passes.ensures.seated ended.claims,
      leaves_moves c.args.spare.seat new c.into_passes.result.items ended.claims.same c.into_passes.ensures.items (λ moment. ⊥) ended.moves,
    )
