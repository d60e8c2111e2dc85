use Rattle.std.proofs.Common.{◌∙◌, List, None, refl, ap, subst, arith}
use Rattle.std.proofs.lemmas.Option.{slice_get_read, slice_get_within}
use Rattle.due_queue.specs.Queues.{NoneDue}
use Rattle.mix_shard.specs.Items.{whens}
use Rattle.mix_shard.specs.Shards.{ShardState}
use Rattle.mix_shard.specs.declared.terms.Terms.{Terms}
use Rattle.node_core.specs.Inside.{StandsFirst}
use Rattle.node_core.specs.Nodes.{all_held}
use Rattle.node_core.proofs.Places.{with_shard}
use Rattle.node_core.proofs.Sending.{gives_some, item_sent, same_terms}
use Rattle.node_core.proofs.node.Node.send.Goals as goal

pub returns-in_default-clause-none : goal.returns-in_default-clause-none
returns-in_default-clause-none g c =
    rw (← c.self.view_is) (subst (λ (l : List ShardState). NoneDue whens None c.args.moment (all_held l)) c.as_slice.ensures.value c.in_default.ensures)

pub index_mut-requires : goal.index_mut-requires
index_mut-requires g c =
    let stands = subst (λ (l : List ShardState). StandsFirst c.args.moment l (all_held l) c.in-Some.place c.in-Some.next) c.as_slice.ensures.value c.in-Some.ensures in
    omega (arith, slice_get_within c.self.inside.shards.items c.in-Some.place stands.shard stands.there)

pub take_due-requires : goal.take_due-requires
take_due-requires g c =
    let stands = subst (λ (l : List ShardState). StandsFirst c.args.moment l (all_held l) c.in-Some.place c.in-Some.next) c.as_slice.ensures.value c.in-Some.ensures in
    let there = slice_get_read c.self.inside.shards.items _ c.in-Some.place c.index_mut.result.now refl
    (slice_get_within c.self.inside.shards.items c.in-Some.place stands.shard stands.there) c.index_mut.ensures.value in
    let callers = ap (λ (t : Terms). t.callers) (c.self.invariant.0.each c.in-Some.place c.index_mut.result.now there).terms in
    omega (arith, callers)

pub invariant_of-self : goal.invariant_of-self
invariant_of-self g c =
    let stands = subst (λ (l : List ShardState). StandsFirst c.args.moment l (all_held l) c.in-Some.place c.in-Some.next) c.as_slice.ensures.value c.in-Some.ensures in
    let there = slice_get_read c.self.inside.shards.items _ c.in-Some.place c.index_mut.result.now refl
    (slice_get_within c.self.inside.shards.items c.in-Some.place stands.shard stands.there) c.index_mut.ensures.value in
    let is = c.self.invariant.0.each c.in-Some.place c.index_mut.result.now there in (
      with_shard g.R.Rack.tells g.S.Suite.meaning c.self.inside.setup c.self.inside.shards.items c.in-Some.place c.index_mut.result.now c.take_due.new.self
          c.self.invariant.0 there (record {
            terms = same_terms c.args.moment c.self.inside.shards.items c.in-Some.place c.in-Some.next c.index_mut.result.now stands there
                g.R.Rack.tells g.S.Suite.meaning c.take_due.new.self c.take_due.result c.take_due.ensures.none c.take_due.ensures.told ∙ is.terms;
            active = c.take_due.ensures.callers ∙ is.active;
            kept = c.take_due.ensures.kept;
          }),
      c.self.invariant.1,
      c.self.invariant.2,
      c.self.invariant.3,
      c.self.invariant.4,
      c.self.invariant.5,
      c.self.invariant.6,
    )

pub returns-clause-sent : goal.returns-clause-sent
returns-clause-sent g c =
    let stands = subst (λ (l : List ShardState). StandsFirst c.args.moment l (all_held l) c.in-Some.place c.in-Some.next) c.as_slice.ensures.value c.in-Some.ensures in
    let there = slice_get_read c.self.inside.shards.items _ c.in-Some.place c.index_mut.result.now refl
    (slice_get_within c.self.inside.shards.items c.in-Some.place stands.shard stands.there) c.index_mut.ensures.value in
    rw (← c.self.view_is) (item_sent c.args.moment c.self.inside.shards.items c.in-Some.place c.in-Some.next c.index_mut.result.now stands there
    g.R.Rack.tells g.S.Suite.meaning c.take_due.new.self _ c.take_due.result refl c.take_due.ensures.taken c.take_due.ensures.rest c.take_due.ensures.told c.take_due.ensures.rack)

pub returns-clause-none : goal.returns-clause-none
returns-clause-none g c =
    let stands = subst (λ (l : List ShardState). StandsFirst c.args.moment l (all_held l) c.in-Some.place c.in-Some.next) c.as_slice.ensures.value c.in-Some.ensures in
    let there = slice_get_read c.self.inside.shards.items _ c.in-Some.place c.index_mut.result.now refl
    (slice_get_within c.self.inside.shards.items c.in-Some.place stands.shard stands.there) c.index_mut.ensures.value in
    gives_some c.args.moment c.self.inside.shards.items c.in-Some.place c.in-Some.next c.index_mut.result.now stands there c.take_due.result _ c.take_due.ensures.none

pub returns-clause-unchanged : goal.returns-clause-unchanged
returns-clause-unchanged g c =
    let stands = subst (λ (l : List ShardState). StandsFirst c.args.moment l (all_held l) c.in-Some.place c.in-Some.next) c.as_slice.ensures.value c.in-Some.ensures in
    let there = slice_get_read c.self.inside.shards.items _ c.in-Some.place c.index_mut.result.now refl
    (slice_get_within c.self.inside.shards.items c.in-Some.place stands.shard stands.there) c.index_mut.ensures.value in
    gives_some c.args.moment c.self.inside.shards.items c.in-Some.place c.in-Some.next c.index_mut.result.now stands there c.take_due.result _ c.take_due.ensures.none

pub returns-clause-kept : goal.returns-clause-kept
returns-clause-kept g c = (invariant_of-self g c).0
