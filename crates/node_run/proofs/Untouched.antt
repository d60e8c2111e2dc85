-- Shards behind locks that nobody used are as they were.
use Rattle.std.proofs.Common.{◌≡◌, ℕ, ◌<◌, List, [], ◌∷◌, ◌++◌, length, map, option_map, Some, refl, sym, ap, subst, ◌∙◌, arith, eq-eqb}
use Rattle.std.specs.Prelude.{All, slice_get}
use Rattle.std.specs.Global.{Vec}
use Rattle.std.proofs.lemmas.List.{append-nil, length-map}
use Rattle.std.proofs.lemmas.Option.{slice_get-map}
use Rattle.mix_base.specs.Suites.{SuiteMeaning}
use Rattle.mix_shard.specs.Entries.{caller_of}
use Rattle.mix_shard.specs.Items.{Item}
use Rattle.mix_shard.specs.Origins.{origin_of}
use Rattle.mix_shard.specs.Shards.{IsKept, ShardState}
use Rattle.mix_shard.specs.Tale.{began}
use Rattle.mix_shard.specs.declared.entries.Told.{Told}
use Rattle.turn_lock.specs.Seen.{Caller, IsIdle, Lock, new_pass}
use Rattle.turn_lock.specs.Stories.{entries_by}
use Rattle.node_actors.specs.Calls.{HoldsNothing, has_ended, terms_in}
use Rattle.node_actors.proofs.Drained.{is_active}
use Rattle.node_actors.proofs.Seating.{get_low, get_there, some_same}
use Rattle.node_actors.proofs.Tallies.{tale_held}
use Rattle.node_run.specs.Closings.{AreHands, IsClosed}
use Rattle.node_run.specs.Ends.{AreUnused, IsBack}
use Rattle.node_run.specs.Halls.{HallState, IsHallLock, fresh_passes}
use Rattle.node_run.proofs.Columns.{all_at}

abbrev by_caller : Told → ℕ
by_caller told = caller_of told.entry

pub same_callers : (hall : HallState) (lock : Lock Told) (shard : ShardState) → IsHallLock hall lock → origin_of shard ≡ lock.origin → lock.callers ≡ shard.terms.callers
same_callers hall lock shard is origin = is.many ∙ (sym is.callers_are ∙ ap (λ (o : List (List ℕ)). (terms_in o).callers) (sym origin))

module _ (hall : HallState) (each : All (IsHallLock hall) hall.locks) (list : List (Vec (Caller Told))) (unused : AreUnused hall list) where
  abbrev hands : List (List (Caller Told))
  hands = map (λ hand. hand.items) list

  hand_is : (c : ℕ) (hand : List (Caller Told)) → slice_get hands c ≡ Some hand → hand ≡ fresh_passes hall.locks c
  hand_is c hand is =
      let own = get_there list c (omega (arith, get_low hands c hand is, length-map list (λ (h : Vec (Caller Told)). h.items))) in
      some_same hand own.0.items
      (sym is ∙ (slice_get-map (λ (h : Vec (Caller Told)). h.items) list c ∙ ap (λ o. option_map (λ (h : Vec (Caller Told)). h.items) o) own.1))
      ∙ unused.each c own.0 own.1

  many_hands : length hands ≡ hall.callers
  many_hands = length-map list (λ (h : Vec (Caller Told)). h.items) ∙ unused.many

  -- the passes of a caller
  own_pass : (c i : ℕ) (hand : List (Caller Told)) (lock : Lock Told) (pass : Caller Told) → slice_get hands c ≡ Some hand → slice_get hall.locks i ≡ Some lock
      → slice_get hand i ≡ Some pass → new_pass lock c ≡ pass
  own_pass c i hand lock pass hand_at lock_is pass_is =
      some_same (new_pass lock c) pass
      (sym (slice_get-map (λ (l : Lock Told). new_pass l c) hall.locks i ∙ ap (λ o. option_map (λ (l : Lock Told). new_pass l c) o) lock_is)
      ∙ (ap (λ (h : List (Caller Told)). slice_get h i) (sym (hand_is c hand hand_at)) ∙ pass_is))

  pub unused_hands : AreHands hall.locks hands
  unused_hands = record {
    many = λ c hand hand_at. ap (λ (h : List (Caller Told)). length h) (hand_is c hand hand_at) ∙ length-map hall.locks (λ (l : Lock Told). new_pass l c);
    callers = λ i lock lock_is. (all_at (IsHallLock hall) hall.locks i lock each lock_is).many ∙ sym many_hands;
    idle = λ c i hand lock pass hand_at lock_is pass_is.
        subst (λ (p : Caller Told). IsIdle lock c p) (own_pass c i hand lock pass hand_at lock_is pass_is) ((refl, refl), refl, refl);
  }

  nobody_made : (i : ℕ) (lock : Lock Told) (shard : ShardState) → slice_get hall.locks i ≡ Some lock → IsClosed lock hands i shard → (since : List Told)
      → All (λ told. by_caller told < lock.callers) since → ((c : ℕ) → c < lock.callers → entries_by by_caller c since ≡ []) → since ≡ []
  nobody_made i lock shard lock_is closed [] others none = refl
  nobody_made i lock shard lock_is closed (told ∷ since) others none =
      let c = by_caller told in
      let has : told ∷ entries_by by_caller c since ≡ [] = rw (eq-eqb c c refl) at (none c (others 0 told (omega arith))) in
      absurd cc

  no_items : (items : List Item) → length items ≡ 0 → items ≡ []
  no_items [] none = refl
  no_items (item ∷ items) none = absurd (omega (arith, none))

  pub back : (tells : Type 0) (suite : SuiteMeaning) (i : ℕ) (lock : Lock Told) (shard : ShardState) → slice_get hall.locks i ≡ Some lock → IsClosed lock hands i shard
      → IsKept tells suite shard → IsBack tells suite lock shard
  back tells suite i lock shard lock_is closed kept =
      let hall_lock = all_at (IsHallLock hall) hall.locks i lock each lock_is in
      let none : (c : ℕ) → c < lock.callers → entries_by by_caller c closed.since ≡ [] = λ c low.
      let hand = get_there hands c (omega (arith, low, many_hands, hall_lock.many)) in
      let own = get_there hand.0 i (omega (arith, get_low hall.locks i lock lock_is, unused_hands.many c hand.0 hand.1)) in
      closed.calls c hand.0 own.0 hand.1 own.1 ∙ ap (λ (p : Caller Told). p.made) (sym (own_pass c i hand.0 lock own.0 hand.1 lock_is own.1)) in
      let since : closed.since ≡ [] = nobody_made i lock shard lock_is closed closed.since closed.others none in
      let told : shard.told ≡ lock.story = closed.told ∙ (ap (λ (tale : List Told). lock.story ++ tale) since ∙ append-nil lock.story) in
      let holds : HoldsNothing shard.told = subst HoldsNothing (sym told) hall_lock.nothing_held in
      let many = tale_held tells suite shard.terms (began shard.terms shard.first.areas) shard.state shard.told kept.tale in
      let same = same_callers hall lock shard hall_lock closed.origin in
      record {
        origin = closed.origin;
        told = told;
        kept = kept;
        empty = no_items shard.state.held (omega (arith, many, holds));
        open_still = λ c low. is_active tells suite shard kept c low
            (ap (λ (tale : List Told). has_ended c tale) told ∙ hall_lock.nobody_ended c (omega (arith, low, same, hall_lock.many)));
      }
