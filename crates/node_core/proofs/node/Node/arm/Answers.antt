use Rattle.std.proofs.Common.{◌<◌, ◌∙◌, sym, refl, ap, subst}
use Rattle.node_core.specs.Nodes.{NodeState}
use Rattle.std.proofs.lemmas.Option.{slice_get_read}
use Rattle.mix_shard.specs.Shards.{ShardState}
use Rattle.node_core.proofs.Changing.{kept_armed}
use Rattle.node_core.proofs.Places.{with_shard}
use Rattle.node_core.proofs.node.Node.arm.Goals as goal

pub invariant_of-self : goal.invariant_of-self
invariant_of-self g c =
    let there = slice_get_read c.self.inside.shards.items c.self.inside.setup.shards c.args.shard c.index_mut.result.now
    (sym c.self.invariant.0.count) (subst (λ (node : NodeState). c.args.shard < node.setup.shards) (sym c.self.view_is) c.requires.shard) c.index_mut.ensures.value in
    let is = c.self.invariant.0.each c.args.shard c.index_mut.result.now there in (
      with_shard g.R.Rack.tells g.S.Suite.meaning c.self.inside.setup c.self.inside.shards.items c.args.shard c.index_mut.result.now c.arm.new.self
          c.self.invariant.0 there (record { terms = ap (λ (s : ShardState). s.terms) c.arm.ensures ∙ is.terms; active = ap (λ (s : ShardState). s.state.done) c.arm.ensures ∙ is.active; kept = kept_armed g.R.Rack.tells g.S.Suite.meaning c.index_mut.result.now c.arm.new.self c.args.calls c.arm.ensures is.kept }),
      c.self.invariant.1,
      c.self.invariant.2,
      c.self.invariant.3,
      c.self.invariant.4,
      c.self.invariant.5,
      c.self.invariant.6,
    )

pub returns-clause-arms : goal.returns-clause-arms
returns-clause-arms g c =
    let there = slice_get_read c.self.inside.shards.items c.self.inside.setup.shards c.args.shard c.index_mut.result.now
    (sym c.self.invariant.0.count) (subst (λ (node : NodeState). c.args.shard < node.setup.shards) (sym c.self.view_is) c.requires.shard) c.index_mut.ensures.value in
    rw (← c.self.view_is) (record {
      before = c.index_mut.result.now;
      after = c.arm.new.self;
      there = there;
      changes = c.arm.ensures;
      new_is = refl;
    })

pub returns-clause-kept : goal.returns-clause-kept
returns-clause-kept g c = (invariant_of-self g c).0
