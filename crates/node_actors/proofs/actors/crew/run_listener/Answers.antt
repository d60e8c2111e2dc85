use Rattle.node_actors.proofs.Leavings.{leaves_dealer}
use Rattle.node_actors.proofs.actors.crew.run_listener.Goals as goal

pub returns : goal.returns
returns g c =
    let ran = c.run-dealer in (
      leaves_dealer c.args.listener.dealer.seat ran.result.dealer.seat c.into_passes.result.items ran.ensures.seat c.into_passes.ensures.items
          g.S.Suite.meaning ran.result.dealer.log.items ran.result.dealer.dropped c.into_passes.ensures.seated ran.ensures.moves ran.ensures.dealt,
      ran.ensures.course,
    )
