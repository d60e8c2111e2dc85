use Rattle.std.proofs.Common.{◌≡◌, ℕ, List, length, sym, ap, ◌∙◌, subst}
use Rattle.std.proofs.lemmas.List.{length-map}
use Rattle.mix_shard.specs.declared.entries.Told.{Told}
use Rattle.turn_lock.specs.Seen.{Lock}
use Rattle.node_run.specs.Accounts.{hands_of}
use Rattle.node_run.specs.Closings.{AreAllPasses, AreClosed}
use Rattle.node_run.specs.Halls.{HallState, IsHall}
use Rattle.node_run.specs.Rooms.{AreEmpty}
use Rattle.node_run.proofs.Shutting.{all_kept, closed_all, hands_fit, hands_to_passes, many_hands}
use Rattle.node_run.proofs.life.ending.end_node.Goals as goal

pub gather-passes-requires-clause-hands : goal.gather-passes-requires-clause-hands
gather-passes-requires-clause-hands g c = hands_fit c.args.hall.locks c.args.lefts.items (length c.args.rooms.passes.items) c.requires.ended.hands c.requires.room.passes.count

pub gather-passes-requires-clause-lists : goal.gather-passes-requires-clause-lists
gather-passes-requires-clause-lists g c =
    let hall : IsHall c.args.hall = subst IsHall c.hall.view_is c.hall.invariant in
    let many : c.args.hall.callers ≡ length c.args.lefts.items =
    sym (many_hands c.args.hall (hands_of c.args.lefts.items) hall c.requires.ended.hands) ∙ length-map c.args.lefts.items (λ gave. gave.passes.items) in
    let count = sym c.requires.room.passes.count in
    subst (λ (n : ℕ). AreEmpty (length c.args.rooms.passes.items) n c.args.rooms.passes) many
    (subst (λ (n : ℕ). AreEmpty n c.args.hall.callers c.args.rooms.passes) count c.requires.room.passes)

pub close_all-shards-requires-clause-passes : goal.close_all-shards-requires-clause-passes
close_all-shards-requires-clause-passes g c =
    let locks : c.args.hall.locks ≡ c.hall.inside.locks.items = ap (λ (h : HallState). h.locks) (sym c.hall.view_is) in
    subst (λ (xs : List (Lock Told)). AreAllPasses xs c.gather-passes.result.0.items) locks
    (hands_to_passes c.args.hall.locks (hands_of c.args.lefts.items) c.gather-passes.result.0.items c.requires.ended.hands
    (c.gather-passes.ensures.many ∙ c.requires.room.passes.count) c.gather-passes.ensures.columns)

pub returns-clause-closed : goal.returns-clause-closed
returns-clause-closed g c =
    let locks : c.hall.inside.locks.items ≡ c.args.hall.locks = ap (λ (h : HallState). h.locks) c.hall.view_is in
    subst (λ (xs : List (Lock Told)). AreClosed xs (hands_of c.args.lefts.items) c.close_all-shards.result.items) locks
    (closed_all g.R.Rack.tells g.S.Suite.meaning c.hall.inside.locks.items (hands_of c.args.lefts.items) c.gather-passes.result.0.items c.close_all-shards.result.items
    c.gather-passes.ensures.columns c.close_all-shards.ensures)

pub returns-clause-kept : goal.returns-clause-kept
returns-clause-kept g c = all_kept g.R.Rack.tells g.S.Suite.meaning c.hall.inside.locks.items c.gather-passes.result.0.items c.close_all-shards.result.items c.close_all-shards.ensures
