use Rattle.std.proofs.Common.{◌≡◌, ℕ, List, length, map, sym, ap, ◌∙◌, subst}
use Rattle.std.specs.Prelude.{slice_get}
use Rattle.std.specs.Global.{Vec}
use Rattle.mix_shard.specs.declared.entries.Told.{Told}
use Rattle.turn_lock.specs.Seen.{Caller, Lock}
use Rattle.node_run.specs.Closings.{AreAllPasses}
use Rattle.node_run.specs.Halls.{HallState, IsHall}
use Rattle.node_run.specs.Rooms.{AreEmpty}
use Rattle.node_run.proofs.Untouched.{back, unused_hands}
use Rattle.node_run.proofs.Shutting.{closed_all, hands_fit_lists, hands_to_passes, shut_kept, shut_many}
use Rattle.node_run.proofs.life.unused.end_unrun.Goals as goal

abbrev turned : List (Vec (Caller Told)) → List (List (Caller Told))
turned hands = map (λ hand. hand.items) hands

pub turn_round-passes-requires-clause-hands : goal.turn_round-passes-requires-clause-hands
turn_round-passes-requires-clause-hands g c =
    let hall : IsHall c.args.hall = subst IsHall c.hall.view_is c.hall.invariant in
    let room = c.requires.room.3 in
    hands_fit_lists c.args.hall.locks c.args.hands.items (length c.args.rooms.passes.items) (unused_hands c.args.hall hall.each c.args.hands.items c.requires.unused) room.passes.count

pub turn_round-passes-requires-clause-lists : goal.turn_round-passes-requires-clause-lists
turn_round-passes-requires-clause-lists g c =
    let room = c.requires.room.3 in
    let many : c.args.hall.callers ≡ length c.args.hands.items = sym c.requires.unused.many in
    subst (λ (n : ℕ). AreEmpty (length c.args.rooms.passes.items) n c.args.rooms.passes) many
    (subst (λ (n : ℕ). AreEmpty n c.args.hall.callers c.args.rooms.passes) (sym room.passes.count) room.passes)

pub close_all-requires-clause-passes : goal.close_all-requires-clause-passes
close_all-requires-clause-passes g c =
    let hall : IsHall c.args.hall = subst IsHall c.hall.view_is c.hall.invariant in
    let locks : c.args.hall.locks ≡ c.hall.inside.locks.items = ap (λ (h : HallState). h.locks) (sym c.hall.view_is) in
    subst (λ (xs : List (Lock Told)). AreAllPasses xs c.turn_round-passes.result.items) locks
    (hands_to_passes c.args.hall.locks (turned c.args.hands.items) c.turn_round-passes.result.items (unused_hands c.args.hall hall.each c.args.hands.items c.requires.unused)
    (c.turn_round-passes.ensures.many ∙ c.requires.room.3.passes.count) c.turn_round-passes.ensures.columns)

pub returns-clause-back : goal.returns-clause-back
returns-clause-back g c =
    let hall : IsHall c.args.hall = subst IsHall c.hall.view_is c.hall.invariant in
    let hands = turned c.args.hands.items in
    let lists = c.turn_round-passes.result.items in
    let shards = c.close_all.result.items in
    let inside = c.hall.inside.locks.items in
    let locks : inside ≡ c.args.hall.locks = ap (λ (h : HallState). h.locks) c.hall.view_is in
    let shut = c.close_all.ensures in
    let closed = closed_all g.R.Rack.tells g.S.Suite.meaning inside hands lists shards c.turn_round-passes.ensures.columns shut in
    record {
      many = shut_many g.R.Rack.tells g.S.Suite.meaning inside lists shards shut ∙ ap (λ (xs : List (Lock Told)). length xs) locks;
      each = λ i lock shard lock_is shard_is.
          let lock_in = ap (λ (xs : List (Lock Told)). slice_get xs i) locks ∙ lock_is in
          back c.args.hall hall.each c.args.hands.items c.requires.unused g.R.Rack.tells g.S.Suite.meaning i lock shard lock_is (closed.each i lock shard lock_in shard_is)
          (shut_kept g.R.Rack.tells g.S.Suite.meaning inside lists shards shut i lock shard lock_in shard_is);
    }
