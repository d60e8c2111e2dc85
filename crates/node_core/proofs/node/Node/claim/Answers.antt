use Rattle.std.proofs.Common.{ℕ, ◌∙◌, List, Bool, Option, sym, ap, subst, None}
use Rattle.std.specs.List.{All, slice_get}
use Rattle.std.proofs.lemmas.List.Elements.{All-set}
use Rattle.std.proofs.lemmas.Option.{slice_get_read}
use Rattle.mix_shard.specs.Items.{Item}
use Rattle.mix_shard.specs.declared.terms.Terms.{Terms}
use Rattle.node_core.specs.Nodes.{HeldFor, packets_setup}
use Rattle.node_core.specs.Steps.{claimed_by, place_of}
use Rattle.node_core.proofs.Claiming.{held_setup, item_claimed}
use Rattle.node_core.proofs.Places.{with_shard}
use Rattle.node_core.proofs.node.Node.claim.Goals as goal

pub admit-requires-clause-active : goal.admit-requires-clause-active
admit-requires-clause-active g c =
    let there = slice_get_read c.self.inside.shards.items c.self.inside.setup.shards c.place_for-shard.result c.index_mut.result.now
    (sym c.self.invariant.0.count) c.place_for-shard.ensures.below c.index_mut.ensures.value in
    ap (λ (done : List Bool). slice_get done 0) (c.self.invariant.0.each c.place_for-shard.result c.index_mut.result.now there).active

pub admit-requires-clause-setup : goal.admit-requires-clause-setup
admit-requires-clause-setup g c =
    let there = slice_get_read c.self.inside.shards.items c.self.inside.setup.shards c.place_for-shard.result c.index_mut.result.now
    (sym c.self.invariant.0.count) c.place_for-shard.ensures.below c.index_mut.ensures.value in
    held_setup (packets_setup c.self.inside.setup) c.self.inside.workers c.args.worker c.in-Some.held c.self.invariant.4 (sym c.take_from.ensures.taken ∙ c.in-Some.is)
    ∙ sym (ap (λ (t : Terms). t.setup) (c.self.invariant.0.each c.place_for-shard.result c.index_mut.result.now there).terms)

pub invariant_of-self-2 : goal.invariant_of-self-2
invariant_of-self-2 g c =
    let there = slice_get_read c.self.inside.shards.items c.self.inside.setup.shards c.place_for-shard.result c.index_mut.result.now
    (sym c.self.invariant.0.count) c.place_for-shard.ensures.below c.index_mut.ensures.value in
    let is = c.self.invariant.0.each c.place_for-shard.result c.index_mut.result.now there in (
      with_shard g.R.Rack.tells g.S.Suite.meaning c.self.inside.setup c.self.inside.shards.items c.place_for-shard.result c.index_mut.result.now c.admit.new.self
          c.self.invariant.0 there (record {
            terms = c.admit.ensures.told.began.terms ∙ is.terms;
            active = c.admit.ensures.callers ∙ is.active;
            kept = c.admit.ensures.kept;
          }),
      c.self.invariant.1,
      c.self.invariant.2,
      c.self.invariant.3,
      subst (λ (workers : List (Option Item)). All (HeldFor (packets_setup c.self.inside.setup)) workers) (sym c.take_from.ensures.left)
          (All-set (HeldFor (packets_setup c.self.inside.setup)) c.self.inside.workers c.args.worker None tt c.self.invariant.4),
      c.self.invariant.5,
      c.self.invariant.6,
    )

pub returns-clause-claims : goal.returns-clause-claims
returns-clause-claims g c =
    let there = slice_get_read c.self.inside.shards.items c.self.inside.setup.shards c.place_for-shard.result c.index_mut.result.now
    (sym c.self.invariant.0.count) c.place_for-shard.ensures.below c.index_mut.ensures.value in
    rw (← c.self.view_is, c.take_from.ensures.left) (item_claimed g.R.Rack.tells g.S.Suite.meaning c.args.worker c.in-Some.held c.claimed.result _ c.index_mut.result.now c.admit.new.self
    c.place_for-shard.result c.admit.result (sym c.take_from.ensures.taken ∙ c.in-Some.is)
    (c.place_for-shard.ensures.value ∙ ap (λ (tag : List ℕ). place_of c.self.inside.setup tag) c.tag.ensures) there
    (record {
      told = c.admit.ensures.told;
      objection = c.admit.ensures.objection;
      among = c.admit.ensures.among;
      objects = c.admit.ensures.objects;
      each_moment = c.admit.ensures.each_moment;
      owes = c.admit.ensures.owes;
    })
    (c.claimed.ensures ∙ ap (λ (n : ℕ). claimed_by n c.place_for-shard.result c.admit.result) c.number-number.ensures.value))

pub invariant_of-self : goal.invariant_of-self
invariant_of-self g c = (
  c.self.invariant.0,
  c.self.invariant.1,
  c.self.invariant.2,
  c.self.invariant.3,
  subst (λ (workers : List (Option Item)). All (HeldFor (packets_setup c.self.inside.setup)) workers) (sym c.take_from.ensures.left)
      (All-set (HeldFor (packets_setup c.self.inside.setup)) c.self.inside.workers c.args.worker None tt c.self.invariant.4),
  c.self.invariant.5,
  c.self.invariant.6,
)

pub returns-clause-kept : goal.returns-clause-kept
returns-clause-kept g c = (invariant_of-self-2 g c).0
