use Rattle.std.proofs.Common.{◌^◌, ◌<◌, map, ◌∙◌, refl, [], ◌∷◌, Option, None}
use Rattle.std.proofs.lemmas.List.{length-map}
use Rattle.std.proofs.lemmas.List.Elements.{All-cons, All-nil}
use Rattle.mix_shard.specs.Items.{Item}
use Rattle.node_core.specs.declared.arrivals.Arrival.{Arrival}
use Rattle.node_core.specs.Nodes.{HeldFor, packets_setup}
use Rattle.node_core.proofs.Making.{node_made, shards_made}
use Rattle.node_core.proofs.node.Node.new.Goals as goal

pub invariant_of-result : goal.invariant_of-result
invariant_of-result g c =
    let made = c.in-Ok-make_shards.ensures in
    let P : Option Item → Type 0 = HeldFor (packets_setup c.args.setup) in (
      shards_made g.R.Rack.tells g.S.Suite.meaning c.args.setup (map g.R.Rack.state c.args.racks.items) c.in-Ok-make_shards.shards.items c.requires.allowed
          (length-map c.args.racks.items g.R.Rack.state ∙ c.requires.count) made.racks made.made,
      rw (c.new-in-Ok-make_shards.ensures.items) (All-nil (λ (a : Arrival). a.at < 2 ^ 60)),
      rw (c.new.ensures) refl,
      rw (c.new.ensures) refl,
      All-cons P None (None ∷ None ∷ None ∷ []) tt (All-cons P None (None ∷ None ∷ []) tt (All-cons P None (None ∷ []) tt (All-cons P None [] tt (All-nil P)))),
      made.places,
      made.room,
    )

pub returns-in-Ok-make_shards-clause-node : goal.returns-in-Ok-make_shards-clause-node
returns-in-Ok-make_shards-clause-node g c =
    let made = c.in-Ok-make_shards.ensures in
    node_made g.R.Rack.tells g.S.Suite.meaning c.args.setup (map g.R.Rack.state c.args.racks.items) c.in-Ok-make_shards.shards.items c.new-in-Ok-make_shards.result.items
    c.new-in-Ok-make_shards.ensures.items made.racks made.made

pub returns-in-Ok-make_shards-clause-kept : goal.returns-in-Ok-make_shards-clause-kept
returns-in-Ok-make_shards-clause-kept g c = (invariant_of-result g c).0
