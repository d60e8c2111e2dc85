use Rattle.std.proofs.Common.{◌<◌, ◌∙◌, sym, refl, subst}
use Rattle.node_core.specs.Nodes.{NodeState}
use Rattle.std.proofs.lemmas.Option.{slice_get_read}
use Rattle.node_core.proofs.Changing.{is_caller}
use Rattle.node_core.proofs.Places.{with_shard}
use Rattle.node_core.proofs.node.Node.rotate.Goals as goal

pub rotate-requires-clause-caller : goal.rotate-requires-clause-caller
rotate-requires-clause-caller g c =
    let there = slice_get_read c.self.inside.shards.items c.self.inside.setup.shards c.args.shard c.index_mut.result.now
    (sym c.self.invariant.0.count) (subst (λ (node : NodeState). c.args.shard < node.setup.shards) (sym c.self.view_is) c.requires.shard) c.index_mut.ensures.value in
    is_caller g.R.Rack.tells g.S.Suite.meaning c.self.inside.setup c.args.shard c.index_mut.result.now (c.self.invariant.0.each c.args.shard c.index_mut.result.now there)

pub invariant_of-self : goal.invariant_of-self
invariant_of-self g c =
    let there = slice_get_read c.self.inside.shards.items c.self.inside.setup.shards c.args.shard c.index_mut.result.now
    (sym c.self.invariant.0.count) (subst (λ (node : NodeState). c.args.shard < node.setup.shards) (sym c.self.view_is) c.requires.shard) c.index_mut.ensures.value in
    let is = c.self.invariant.0.each c.args.shard c.index_mut.result.now there in (
      with_shard g.R.Rack.tells g.S.Suite.meaning c.self.inside.setup c.self.inside.shards.items c.args.shard c.index_mut.result.now c.rotate.new.self
          c.self.invariant.0 there (record { terms = c.rotate.ensures.told.began.terms ∙ is.terms; active = c.rotate.ensures.callers ∙ is.active; kept = c.rotate.ensures.kept }),
      c.self.invariant.1,
      c.self.invariant.2,
      c.self.invariant.3,
      c.self.invariant.4,
      c.self.invariant.5,
      c.self.invariant.6,
    )

pub returns-clause-retires : goal.returns-clause-retires
returns-clause-retires g c =
    let there = slice_get_read c.self.inside.shards.items c.self.inside.setup.shards c.args.shard c.index_mut.result.now
    (sym c.self.invariant.0.count) (subst (λ (node : NodeState). c.args.shard < node.setup.shards) (sym c.self.view_is) c.requires.shard) c.index_mut.ensures.value in
    rw (← c.self.view_is) (record {
      before = c.index_mut.result.now;
      after = c.rotate.new.self;
      there = there;
      changes = record { told = c.rotate.ensures.told; objection = c.rotate.ensures.objection; among = c.rotate.ensures.among; objects = c.rotate.ensures.objects; each_moment = c.rotate.ensures.each_moment; owes = c.rotate.ensures.owes };
      new_is = refl;
    })

pub returns-clause-kept : goal.returns-clause-kept
returns-clause-kept g c = (invariant_of-self g c).0
