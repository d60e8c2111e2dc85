use Rattle.std.proofs.Common.{map, ap, refl, subst, arith}
use Rattle.net_run.specs.Opening.{AreOpened}
use Rattle.net_run.specs.declared.opening.NodePlan.{NodePlan}
use Rattle.net_run.proofs.Opens.{opened_long}
use Rattle.net_run.proofs.Stacks.{map_long}
use Rattle.net_run.proofs.nodes.open_node.Goals as goal

pub returns-in-Ok-clause-opened : goal.returns-in-Ok-clause-opened
returns-in-Ok-clause-opened g c =
    let plan = c.plan_node-plan.ensures.plan in
    let opened = c.in-Ok.ensures.opened in
    let emptied = c.in-Ok.ensures.emptied in
    let long = opened_long g.R.Rack.tells g.S.Suite.meaning c.plan_node-plan.result 0 (map g.R.Rack.state c.args.site.used.items) c.in-Ok.shards.items opened in
    let racks = map_long g.R.Rack.state c.args.site.used.items in
    let shards = ap (λ (p : NodePlan). p.shards) plan in
    record {
      plan = plan;
      shards = subst (λ (p : NodePlan). AreOpened g.R.Rack.tells g.S.Suite.meaning p 0 (map g.R.Rack.state c.args.site.used.items) c.in-Ok.shards.items) plan opened;
      emptied = record { empty = emptied.empty; room = omega (arith, emptied.room, long, racks, shards, c.requires.sizes.used) };
      idle = refl;
    }
