use Rattle.node_actors.specs.Seats.{SeatState}
use Rattle.node_actors.specs.Working.{Worked}
use Rattle.node_actors.proofs.Leavings.{leaves_dealer, leaves_log}
use Rattle.node_actors.proofs.actors.crew.run_worker.Goals as goal

pub returns : goal.returns
returns g c =
    let ran = c.run-dealer in
    let old = c.args.worker.dealer.seat in
    let same = ran.ensures.worked.same_seat in (
      leaves_dealer old ran.result.dealer.seat c.into_passes.result.items same c.into_passes.ensures.items
          g.S.Suite.meaning ran.result.dealer.log.items ran.result.dealer.dropped c.into_passes.ensures.seated ran.ensures.moves ran.ensures.dealt,
      leaves_log old ran.result.dealer.seat c.into_passes.result.items same c.into_passes.ensures.items
          (λ (seat : SeatState). Worked c.args.worker seat ran.result.dealer.log.items ran.result.receiver) ran.ensures.worked,
    )
