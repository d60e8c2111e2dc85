use Rattle.std.proofs.Common.{ap, ◌∙◌}
use Rattle.due_queue.specs.declared.destinations.Dest.{Dest}
use Rattle.mix_shard.specs.declared.entries.Entry.TheVariants.{Take}
use Rattle.mix_shard.specs.Items.{destination}
use Rattle.node_actors.proofs.Turning.{adds_as, adds_same, nothing_found}
use Rattle.due_queue.proofs.Entries.{is_same}
use Rattle.node_actors.proofs.actors.turns.find.Goals as goal

pub returns-in-Some-clause-adds : goal.returns-in-Some-clause-adds
returns-in-Some-clause-adds g c =
    adds_as g.R.Rack.tells g.S.Suite.meaning c.args.caller _ _ _ _
    (λ own h. (h.0, h.1, h.2 ∙ ap (λ (dest : Dest). Take c.args.caller c.in-Some.held.number dest c.args.moment) (is_same c.args.dest.now (destination c.in-Some.held.out) c.in-Some.ensures.taken.is_due.wanted_dest))) c.in-Some.ensures.told

pub returns-in-None-clause-adds : goal.returns-in-None-clause-adds
returns-in-None-clause-adds g c =
    adds_same g.R.Rack.tells g.S.Suite.meaning c.args.caller _ _ _ (nothing_found c.args.caller c.args.moment c.what_is_left.result c.what_is_left.ensures) c.in-None.ensures.unchanged
