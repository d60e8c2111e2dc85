use Rattle.std.proofs.Common.{◌∙◌, length, inr, ap, sym, subst}
use Rattle.std.proofs.lemmas.List.{length-map}
use Rattle.node_core.specs.Nodes.{AreShardsOf}
use Rattle.node_core.specs.declared.setup.NodeSetup.{NodeSetup}
use Rattle.mix_top.proofs.drive.answer_over.Goals as goal

pub returns-in-Ok-clause-driven : goal.returns-in-Ok-clause-driven
returns-in-Ok-clause-driven g c = inr (record {
  start = c.in-Ok.node;
  end = c.answer_events-answered.new.node;
  is_new = c.in-Ok.ensures.node;
  answers = c.answer_events-answered.ensures.answers;
  kept = subst (λ (s : NodeSetup). AreShardsOf g.C.Rack.tells g.S.Suite.meaning s c.answer_events-answered.new.node.shards)
      (c.answer_events-answered.ensures.goes_on.setup ∙ c.in-Ok.ensures.node.setup_is) c.answer_events-answered.ensures.goes_on.kept;
  racks = c.into_racks.ensures;
})

pub returns-in-Ok-clause-count : goal.returns-in-Ok-clause-count
returns-in-Ok-clause-count g c =
    sym (length-map c.into_racks.result.items g.C.Rack.state) ∙ ap length c.into_racks.ensures
    ∙ length-map c.answer_events-answered.new.node.shards (λ shard. shard.rack)
    ∙ c.answer_events-answered.ensures.goes_on.kept.count
    ∙ ap (λ (s : NodeSetup). s.shards) (c.answer_events-answered.ensures.goes_on.setup ∙ c.in-Ok.ensures.node.setup_is) ∙ sym c.requires.count
