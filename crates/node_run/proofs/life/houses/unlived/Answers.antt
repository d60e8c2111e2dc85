use Rattle.std.proofs.Common.{ap, ◌∙◌, List, ℕ, map}
use Rattle.mix_shard.specs.declared.entries.Told.{Told}
use Rattle.mix_shard.specs.declared.setup.Setup.{Setup}
use Rattle.node_run.specs.Halls.{HallState}
use Rattle.node_run.specs.Openings.{tale_behind}
use Rattle.node_run.specs.Seats.{setup_in}
use Rattle.node_run.proofs.Streets.{setup_same, tales_back}
use Rattle.node_run.proofs.life.houses.unlived.Goals as goal

pub returns : goal.returns
returns g c =
    let back = c.end_unrun.ensures in
    let seat = c.end_unrun.result in
    let tales = tales_back g.R.Rack.tells g.S.Suite.meaning c.args.hall.locks seat.shards.items back.back in
    ap (λ (ts : List (List (List ℕ) × List Told)). (setup_in seat, ts)) tales
    ∙ ap (λ (s : Setup). (s, map tale_behind c.args.hall.locks))
    (setup_same seat.geo seat.times seat.seed c.hall.inside.setup back.setup ∙ ap (λ (h : HallState). h.setup) c.hall.view_is)
