-- The shards of a node are opened one after the other.
use Rattle.std.proofs.Common.{◌≡◌, ◌≤◌, ◌<◌, ◌⊎◌, ◌+◌, ℕ, zero, suc, List, [], ◌∷◌, ◌++◌, length, map, Some, IsOk, slice_get, inl, inr, refl, sym, ap, subst, ◌∙◌, zero-add, arith}
use Rattle.mix_base.specs.Suites.{SuiteMeaning}
use Rattle.replay_disk.specs.Disk.{RackState}
use Rattle.mix_shard.specs.Shards.{ShardState}
use Rattle.lab_text.specs.declared.statuses.Status.{Status}
use Rattle.net_run.specs.Opening.{AreOpened, IsOpened, IsStoppedBy, StopsNode, StopsOpening, book_at}
use Rattle.net_run.specs.Racks.{AreLater, IsLater}
use Rattle.net_run.specs.declared.opening.NodePlan.{NodePlan}
use Rattle.net_run.proofs.Laters.{all_same, later_join}

module _ (tells : Type 0) (suite : SuiteMeaning) (plan : NodePlan) where
  -- one more
  pub opened_more : (index : ℕ) (racks : List RackState) (shards : List ShardState) (rack : RackState) (shard : ShardState) → AreOpened tells suite plan index racks shards
      → IsOpened tells suite plan (index + length racks) rack shard → AreOpened tells suite plan index (racks ++ rack ∷ []) (shards ++ shard ∷ [])
  opened_more index [] [] rack shard all one = (subst (λ (i : ℕ). IsOpened tells suite plan i rack shard) (omega arith) one, tt)
  opened_more index [] (s ∷ ss) rack shard all one = absurd all
  opened_more index (r ∷ rs) [] rack shard all one = absurd all
  opened_more index (r ∷ rs) (s ∷ ss) rack shard all one =
      (all.0, opened_more (index + 1) rs ss rack shard all.1 (subst (λ (i : ℕ). IsOpened tells suite plan i rack shard) (omega arith) one))

  -- an opened shard's rack is its rack later
  pub opened_later : (index : ℕ) (rack : RackState) (shard : ShardState) → IsOpened tells suite plan index rack shard → IsLater rack shard.rack
  opened_later index rack shard is = record {
    arms = is.arms;
    crashes = is.crashes;
    faults = subst (λ (first : RackState). first.faults ≤ shard.rack.faults) is.began_on.first is.kept.no_fewer;
  }

  pub all_opened_later : (index : ℕ) (racks : List RackState) (shards : List ShardState) → AreOpened tells suite plan index racks shards
      → AreLater racks (map (λ shard. shard.rack) shards)
  all_opened_later index [] [] all = tt
  all_opened_later index [] (s ∷ ss) all = absurd all
  all_opened_later index (r ∷ rs) [] all = absurd all
  all_opened_later index (r ∷ rs) (s ∷ ss) all = (opened_later index r s all.0, all_opened_later (index + 1) rs ss all.1)

  pub opened_long : (index : ℕ) (racks : List RackState) (shards : List ShardState) → AreOpened tells suite plan index racks shards → length racks ≡ length shards
  opened_long index [] [] all = refl
  opened_long index [] (s ∷ ss) all = absurd all
  opened_long index (r ∷ rs) [] all = absurd all
  opened_long index (r ∷ rs) (s ∷ ss) all = ap (λ n. suc n) (opened_long (index + 1) rs ss all.1)

  -- the racks below have books
  pub books_below : tells → (index : ℕ) (racks rest : List RackState) (shards : List ShardState) → AreOpened tells suite plan index racks shards
      → (i : ℕ) (rack : RackState) → i < length racks → slice_get (racks ++ rest) i ≡ Some rack → IsOk (book_at plan (index + i) rack)
  books_below told index [] rest shards all i rack low is = absurd (omega arith)
  books_below told index (r ∷ rs) rest [] all i rack low is = absurd all
  books_below told index (r ∷ rs) rest (s ∷ ss) all zero rack low is =
      subst (λ (i : ℕ). IsOk (book_at plan i rack)) (omega arith)
      (subst (λ (k : RackState). IsOk (book_at plan index k)) (same_rack r rack is) (has_book index r s all.0))
    where
      same_rack : (one other : RackState) → Some one ≡ Some other → one ≡ other
      same_rack one other e = cc

      has_book : (i : ℕ) (one : RackState) (shard : ShardState) → IsOpened tells suite plan i one shard → IsOk (book_at plan i one)
      has_book i one shard opened = let read = opened.read told in subst IsOk (sym read.1) refl
  books_below told index (r ∷ rs) rest (s ∷ ss) all (suc i) rack low is =
      subst (λ (k : ℕ). IsOk (book_at plan k rack)) (omega arith)
      (books_below told (index + 1) rs rest ss all.1 i rack (omega (arith, low)) is)

  -- the racks come back where one isn't opened
  pub racks_back : (met rest old new : List RackState) (shards : List ShardState) (was is : RackState) → AreOpened tells suite plan 0 met shards → old ≡ met ++ was ∷ rest
      → new ≡ map (λ shard. shard.rack) shards ++ is ∷ rest → IsLater was is → AreLater old new
  racks_back met rest old new shards was is opened old_is new_is later =
      subst (λ (rs : List RackState). AreLater rs new) (sym old_is)
      (subst (λ (rs : List RackState). AreLater (met ++ was ∷ rest) rs) (sym new_is)
      (later_join met (map (λ shard. shard.rack) shards) (was ∷ rest) (is ∷ rest) (all_opened_later 0 met shards opened) (later, all_same rest)))

-- what stands behind a front
pub behind_front : {X : Type 0} (front rest : List X) (x : X) → slice_get (front ++ x ∷ rest) (length front) ≡ Some x
behind_front [] rest x = refl
behind_front (y ∷ ys) rest x = behind_front ys rest x

pub stands_at : {X : Type 0} (all front rest : List X) (x : X) (i : ℕ) → all ≡ front ++ x ∷ rest → length front ≡ i → slice_get all i ≡ Some x
stands_at {X} all front rest x i is long =
    subst (λ (n : ℕ). slice_get all n ≡ Some x) long (subst (λ (xs : List X). slice_get xs (length front) ≡ Some x) (sym is) (behind_front front rest x))

long_map : (shards : List ShardState) → length (map (λ (shard : ShardState). shard.rack) shards) ≡ length shards
long_map [] = refl
long_map (s ∷ ss) = ap (λ n. suc n) (long_map ss)

-- the cause of a status is the first rack that isn't opened
pub stopped_by : (tells : Type 0) (suite : SuiteMeaning) (plan : NodePlan) (met rest old new : List RackState) (shards : List ShardState) (was is : RackState) (status : Status) (index : ℕ)
    → AreOpened tells suite plan 0 met shards → length met ≡ index → old ≡ met ++ was ∷ rest → new ≡ map (λ shard. shard.rack) shards ++ is ∷ rest
    → StopsOpening tells plan index was is status → StopsNode tells plan old new status
stopped_by tells suite plan met rest old new shards was is status index opened long old_is new_is stops =
    inr (record {
      index = index;
      was = was;
      is = is;
      was_there = stands_at old met rest was index old_is long;
      is_there = stands_at new (map (λ shard. shard.rack) shards) rest is index new_is
          (long_map shards ∙ sym (opened_long tells suite plan 0 met shards opened) ∙ long);
      stops = stops;
      before = λ told i rack low there. subst (λ (k : ℕ). IsOk (book_at plan k rack)) (zero-add i)
          (books_below tells suite plan told 0 met (was ∷ rest) shards opened i rack (omega (arith, low, long))
          (subst (λ (rs : List RackState). slice_get rs i ≡ Some rack) old_is there));
    })
