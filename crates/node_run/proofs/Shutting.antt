-- Locks that are closed: from the passes of each caller to the passes to each lock, and from what each lock gave to what all
-- callers did.
use Rattle.std.proofs.Common.{◌≡◌, ℕ, zero, suc, ◌<◌, List, [], ◌∷◌, ◌++◌, length, get_or, map, reverse, Some, option_map, refl, sym, ap, subst, ◌∙◌, arith}
use Rattle.std.specs.Global.{Vec}
use Rattle.std.specs.Prelude.{All, Any, false, slice_get}
use Rattle.std.proofs.lemmas.List.{reverse-append}
use Rattle.std.proofs.lemmas.Option.{slice_get-map}
use Rattle.mix_base.specs.Suites.{SuiteMeaning}
use Rattle.mix_shard.specs.Entries.{caller_of}
use Rattle.mix_shard.specs.Items.{Item}
use Rattle.mix_shard.specs.Origins.{origin_of}
use Rattle.mix_shard.specs.Shards.{IsKept, ShardState}
use Rattle.mix_shard.specs.declared.entries.Told.{Told}
use Rattle.turn_lock.specs.Seen.{Caller, IsIdle, IsOf, Lock}
use Rattle.turn_lock.specs.Stories as stories
use Rattle.turn_lock.proofs.Lists.{after_whole}
use Rattle.node_actors.proofs.Seating.{get_low, get_there, some_same}
use Rattle.node_actors.specs.declared.actors.works.Left.{Left}
use Rattle.node_run.specs.Halls.{HallState, IsHall, IsHallLock}
use Rattle.node_run.specs.Accounts.{hands_of}
use Rattle.node_run.specs.Closings.{AreAllPasses, AreClosed, AreColumns, AreHands, ArePasses, AreShut, IsShut}
use Rattle.node_run.proofs.Columns.{all_at, all_by}

abbrev by_caller : Told → ℕ
by_caller told = caller_of told.entry

-- ---- one lock

module _ (lock : Lock Told) (passes : List (Caller Told)) (are : ArePasses lock passes) where
  pub all_of_lock : All (IsOf lock) passes
  all_of_lock = all_by (IsOf lock) passes (λ c pass is. (are.idle c pass is).0)

  pub all_rest : All (λ pass. pass.holds ≡ false) passes
  all_rest = all_by (λ pass. pass.holds ≡ false) passes (λ c pass is. (are.idle c pass is).1)

  pub each_number : (c : ℕ) → c < lock.callers → Any (λ pass. pass.number ≡ c) passes
  each_number c low =
      let there = get_there passes c (omega (arith, low, are.many)) in
      (c, there.0, get_low passes c there.0 there.1, get_is passes c there.0 there.1, (are.idle c there.0 there.1).2)
    where
      get_is : (xs : List (Caller Told)) (i : ℕ) (x : Caller Told) → slice_get xs i ≡ Some x → get_or xs i x ≡ x
      get_is [] i x is = absurd (omega (arith, get_low [] i x is))
      get_is (y ∷ xs) zero x is = some_same y x is
      get_is (y ∷ xs) (suc i) x is = get_is xs i x is

  -- what a lock gives when it is closed
  pub shut : (tells : Type 0) (suite : SuiteMeaning) (shard : ShardState) → origin_of shard ≡ lock.origin → stories.Begins lock.story shard.told
      → All (λ pass. stories.Begins pass.seen shard.told) passes
      → All (λ pass. stories.entries_by by_caller pass.number (stories.after lock.story shard.told) ≡ pass.made) passes
      → All (λ told. by_caller told < lock.callers) (stories.after lock.story shard.told) → IsKept tells suite shard → IsShut tells suite lock passes shard
  shut tells suite shard origin begins seen made others kept =
      let since_is : stories.after lock.story shard.told ≡ begins.0 = after_whole lock.story begins.0 shard.told begins.1 in
      record {
        origin = origin;
        since = begins.0;
        told = sym begins.1;
        calls = λ c pass is.
            ap (λ (tale : List Told). stories.entries_by by_caller c tale) (sym since_is)
            ∙ (ap (λ (n : ℕ). stories.entries_by by_caller n (stories.after lock.story shard.told)) (sym (are.idle c pass is).2)
            ∙ all_at (λ (p : Caller Told). stories.entries_by by_caller p.number (stories.after lock.story shard.told) ≡ p.made) passes c pass made is);
        seen = λ c pass is. all_at (λ (p : Caller Told). stories.Begins p.seen shard.told) passes c pass seen is;
        others = subst (λ (tale : List Told). All (λ told. by_caller told < lock.callers) tale) since_is others;
        kept = kept;
      }

-- ---- all locks

pub each_passes : (locks : List (Lock Told)) (lists : List (Vec (Caller Told))) → length lists ≡ length locks
    → ((i : ℕ) (lock : Lock Told) (list : Vec (Caller Told)) → slice_get locks i ≡ Some lock → slice_get lists i ≡ Some list → ArePasses lock list.items)
    → AreAllPasses locks lists
each_passes [] [] many each = tt
each_passes [] (list ∷ lists) many each = absurd (omega (arith, many))
each_passes (lock ∷ locks) [] many each = absurd (omega (arith, many))
each_passes (lock ∷ locks) (list ∷ lists) many each =
    (each 0 lock list refl refl, each_passes locks lists (omega (arith, many)) (λ i l p. each (suc i) l p))

pub passes_many : (locks : List (Lock Told)) (lists : List (Vec (Caller Told))) → AreAllPasses locks lists → length lists ≡ length locks
passes_many [] [] are = refl
passes_many [] (list ∷ lists) are = absurd are
passes_many (lock ∷ locks) [] are = absurd are
passes_many (lock ∷ locks) (list ∷ lists) are = ap suc (passes_many locks lists are.1)

-- the passes to the last lock of those that are left
pub last_passes : (locks done : List (Lock Told)) (lists more : List (Vec (Caller Told))) (lock : Lock Told) (list : Vec (Caller Told)) → length lists ≡ length locks
    → AreAllPasses (locks ++ lock ∷ done) (lists ++ list ∷ more) → ArePasses lock list.items
last_passes [] done [] more lock list many are = are.0
last_passes [] done (other ∷ lists) more lock list many are = absurd (omega (arith, many))
last_passes (l ∷ locks) done [] more lock list many are = absurd (omega (arith, many))
last_passes (l ∷ locks) done (other ∷ lists) more lock list many are = last_passes locks done lists more lock list (omega (arith, many)) are.1

-- the passes to each lock are pass i of each caller
pub hands_to_passes : (locks : List (Lock Told)) (hands : List (List (Caller Told))) (lists : List (Vec (Caller Told))) → AreHands locks hands
    → length lists ≡ length locks → AreColumns hands lists → AreAllPasses locks lists
hands_to_passes locks hands lists are many columns = each_passes locks lists many (λ i lock list lock_is list_is. record {
  many = (columns i list list_is).many ∙ sym (are.callers i lock lock_is);
  idle = λ c pass pass_is.
      let column = columns i list list_is in
      let hand = get_there hands c (omega (arith, get_low list.items c pass pass_is, column.many)) in
      let own = get_there hand.0 i (omega (arith, get_low locks i lock lock_is, are.many c hand.0 hand.1)) in
      let same : own.0 ≡ pass = some_same own.0 pass (sym (column.each c hand.0 own.0 hand.1 own.1) ∙ pass_is) in
      subst (λ (p : Caller Told). IsIdle lock c p) same (are.idle c i hand.0 lock own.0 hand.1 lock_is own.1);
})

module _ (tells : Type 0) (suite : SuiteMeaning) where
  pub shut_many : (locks : List (Lock Told)) (lists : List (Vec (Caller Told))) (shards : List ShardState) → AreShut tells suite locks lists shards → length shards ≡ length locks
  shut_many [] [] [] are = refl
  shut_many [] [] (shard ∷ shards) are = absurd are
  shut_many [] (list ∷ lists) shards are = absurd are
  shut_many (lock ∷ locks) [] shards are = absurd are
  shut_many (lock ∷ locks) (list ∷ lists) [] are = absurd are
  shut_many (lock ∷ locks) (list ∷ lists) (shard ∷ shards) are = ap suc (shut_many locks lists shards are.1)

  -- what one of them gave
  pub shut_at : (locks : List (Lock Told)) (lists : List (Vec (Caller Told))) (shards : List ShardState) → AreShut tells suite locks lists shards
      → (i : ℕ) (lock : Lock Told) (shard : ShardState) → slice_get locks i ≡ Some lock → slice_get shards i ≡ Some shard
      → (list : Vec (Caller Told)) × (slice_get lists i ≡ Some list) × IsShut tells suite lock list.items shard
  shut_at [] [] [] are i lock shard lock_is shard_is = absurd (omega (arith, get_low [] i lock lock_is))
  shut_at [] [] (other ∷ shards) are i lock shard lock_is shard_is = absurd are
  shut_at [] (list ∷ lists) shards are i lock shard lock_is shard_is = absurd are
  shut_at (l ∷ locks) [] shards are i lock shard lock_is shard_is = absurd are
  shut_at (l ∷ locks) (list ∷ lists) [] are i lock shard lock_is shard_is = absurd are
  shut_at (l ∷ locks) (list ∷ lists) (other ∷ shards) are zero lock shard lock_is shard_is = (
    list,
    refl,
    subst (λ (s : ShardState). IsShut tells suite lock list.items s) (some_same other shard shard_is)
        (subst (λ (one : Lock Told). IsShut tells suite one list.items other) (some_same l lock lock_is) are.0),
  )
  shut_at (l ∷ locks) (list ∷ lists) (other ∷ shards) are (suc i) lock shard lock_is shard_is = shut_at locks lists shards are.1 i lock shard lock_is shard_is

  -- the last lock of those that are left was closed
  pub shut_more : (locks : List (Lock Told)) (lists : List (Vec (Caller Told))) (shards : List ShardState) (lock : Lock Told) (list : Vec (Caller Told)) (shard : ShardState)
      → IsShut tells suite lock list.items shard → AreShut tells suite locks lists (reverse shards) → AreShut tells suite (lock ∷ locks) (list ∷ lists) (reverse (shards ++ shard ∷ []))
  shut_more locks lists shards lock list shard one are =
      subst (λ (all : List ShardState). AreShut tells suite (lock ∷ locks) (list ∷ lists) all) (sym (reverse-append shards (shard ∷ []))) (one, are)

  -- what each lock gave is what all callers' passes made
  pub closed_all : (locks : List (Lock Told)) (hands : List (List (Caller Told))) (lists : List (Vec (Caller Told))) (shards : List ShardState)
      → AreColumns hands lists → AreShut tells suite locks lists shards → AreClosed locks hands shards
  closed_all locks hands lists shards columns are = record {
    many = shut_many locks lists shards are;
    each = λ i lock shard lock_is shard_is.
        let one = shut_at locks lists shards are i lock shard lock_is shard_is in
        let is = one.2 in
        let column = columns i one.0 one.1 in
        record {
          origin = is.origin;
          since = is.since;
          told = is.told;
          calls = λ c hand pass hand_is pass_is. is.calls c pass (column.each c hand pass hand_is pass_is);
          seen = λ c hand pass hand_is pass_is. is.seen c pass (column.each c hand pass hand_is pass_is);
          others = is.others;
        };
  }

  pub shut_kept : (locks : List (Lock Told)) (lists : List (Vec (Caller Told))) (shards : List ShardState) → AreShut tells suite locks lists shards
      → (i : ℕ) (lock : Lock Told) (shard : ShardState) → slice_get locks i ≡ Some lock → slice_get shards i ≡ Some shard → IsKept tells suite shard
  shut_kept locks lists shards are i lock shard lock_is shard_is = (shut_at locks lists shards are i lock shard lock_is shard_is).2.kept

  pub all_kept : (locks : List (Lock Told)) (lists : List (Vec (Caller Told))) (shards : List ShardState) → AreShut tells suite locks lists shards → All (IsKept tells suite) shards
  all_kept locks lists shards are = all_by (IsKept tells suite) shards (λ i shard shard_is.
      let lock = get_there locks i (omega (arith, get_low shards i shard shard_is, shut_many locks lists shards are)) in
      shut_kept locks lists shards are i lock.0 shard lock.1 shard_is)

-- ---- a whole hall

-- each caller left a pass to each lock
pub hands_fit : {N O : Type 0} (locks : List (Lock Told)) (lefts : List (Left (Caller Told) Item N O)) (many : ℕ) → AreHands locks (hands_of lefts) → many ≡ length locks
    → All (λ gave. length gave.passes.items ≡ many) lefts
hands_fit {N} {O} locks lefts many are count = all_by (λ gave. length gave.passes.items ≡ many) lefts (λ c gave gave_is.
    are.many c gave.passes.items
    (slice_get-map (λ (g : Left (Caller Told) Item N O). g.passes.items) lefts c ∙ ap (λ o. option_map (λ (g : Left (Caller Told) Item N O). g.passes.items) o) gave_is)
    ∙ sym count)

-- there are as many hands as callers
pub many_hands : (hall : HallState) (hands : List (List (Caller Told))) → IsHall hall → AreHands hall.locks hands → length hands ≡ hall.callers
many_hands hall hands is are =
    let lock = get_there hall.locks 0 is.some in
    sym (are.callers 0 lock.0 lock.1) ∙ (all_at (IsHallLock hall) hall.locks 0 lock.0 is.each lock.1).many

pub hands_fit_lists : (locks : List (Lock Told)) (hands : List (Vec (Caller Told))) (many : ℕ) → AreHands locks (map (λ hand. hand.items) hands) → many ≡ length locks
    → All (λ hand. length hand.items ≡ many) hands
hands_fit_lists locks hands many are count = all_by (λ hand. length hand.items ≡ many) hands (λ c hand hand_is.
    are.many c hand.items
    (slice_get-map (λ (h : Vec (Caller Told)). h.items) hands c ∙ ap (λ o. option_map (λ (h : Vec (Caller Told)). h.items) o) hand_is)
    ∙ sym count)
