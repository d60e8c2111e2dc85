use Rattle.net_run.proofs.Opened.{opened_on}
use Rattle.net_run.proofs.opening.ready_shard.Goals as goal

pub returns-in-Ok-clause-opened : goal.returns-in-Ok-clause-opened
returns-in-Ok-clause-opened g c =
    opened_on g.R.Rack.tells g.S.Suite.meaning c.args.plan.now c.args.shape.now c.in-Ok.field-0 _ _ c.args.shard c.ready.new.self c.requires.fresh
    c.in-Ok.ensures.ok c.in-Ok.ensures.owes c.in-Ok.ensures.kept
