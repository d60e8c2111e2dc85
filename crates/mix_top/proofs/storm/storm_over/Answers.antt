use Rattle.std.proofs.Common.{◌∙◌, length, inl, inr, refl, ap, sym, subst}
use Rattle.std.proofs.lemmas.List.{length-map}
use Rattle.node_core.specs.Nodes.{AreShardsOf}
use Rattle.node_core.specs.declared.setup.NodeSetup.{NodeSetup}
use Rattle.mix_top.proofs.storm.storm_over.Goals as goal

pub returns-in-Ok-clause-drove : goal.returns-in-Ok-clause-drove
returns-in-Ok-clause-drove g c = inr (record {
  start = c.in-Ok.node;
  end = c.run_storm-ran.new.node;
  is_new = c.in-Ok.ensures.node;
  storms = c.run_storm-ran.ensures.storms;
  kept = subst (λ (s : NodeSetup). AreShardsOf g.C.Rack.tells g.S.Suite.meaning s c.run_storm-ran.new.node.shards)
      (c.run_storm-ran.ensures.goes_on.setup ∙ c.in-Ok.ensures.node.setup_is) c.run_storm-ran.ensures.goes_on.kept;
  racks = c.into_racks.ensures;
})

pub returns-in-Ok-clause-count : goal.returns-in-Ok-clause-count
returns-in-Ok-clause-count g c =
    sym (length-map c.into_racks.result.items g.C.Rack.state) ∙ ap length c.into_racks.ensures
    ∙ length-map c.run_storm-ran.new.node.shards (λ shard. shard.rack)
    ∙ c.run_storm-ran.ensures.goes_on.kept.count
    ∙ ap (λ (s : NodeSetup). s.shards) (c.run_storm-ran.ensures.goes_on.setup ∙ c.in-Ok.ensures.node.setup_is) ∙ sym c.requires.racks
