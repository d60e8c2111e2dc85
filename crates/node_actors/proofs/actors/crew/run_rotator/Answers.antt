use Rattle.node_actors.specs.Seats.{HasTakenNothing}
use Rattle.node_actors.proofs.Leavings.{leaves_drained, leaves_log, leaves_moves}
use Rattle.node_actors.proofs.actors.crew.run_rotator.Goals as goal

pub returns : goal.returns
returns g c =
    let ran = c.run in
    let old = c.args.rotator.seat in
    let same = ran.ensures.seat.same in (
      leaves_drained old ran.result c.into_passes.result.items same c.into_passes.ensures.items c.into_passes.ensures.seated ran.ensures.seat ran.ensures.drained,
      leaves_log old ran.result c.into_passes.result.items same c.into_passes.ensures.items HasTakenNothing ran.ensures.takes,
      leaves_moves old ran.result c.into_passes.result.items same c.into_passes.ensures.items (g.C.Clock.may_give c.args.rotator.clock) ran.ensures.moves,
    )
