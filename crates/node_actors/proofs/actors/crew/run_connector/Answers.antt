use Rattle.node_actors.proofs.Leavings.{leaves_taker}
use Rattle.node_actors.proofs.actors.crew.run_connector.Goals as goal

pub returns : goal.returns
returns g c =
    let ran = c.run-seat in (
      ran.ensures.hop,
      leaves_taker c.args.connector.taker.seat ran.result.seat c.into_passes.result.items ran.ensures.seat.same c.into_passes.ensures.items
          g.S.Suite.meaning (g.C.Clock.may_give c.args.connector.clock) ran.result.log.items ran.result.unsent c.into_passes.ensures.seated ran.ensures.seat ran.ensures.moves ran.ensures.taken,
      ran.ensures.hands,
    )
