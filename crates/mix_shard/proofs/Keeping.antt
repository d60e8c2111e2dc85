-- What a shard's type keeps, call by call: after each exit the tale leads to the state, and the rack opens to the journal's
-- books.
use Rattle.std.proofs.Common.{◌≡◌, ◌⊎◌, ℕ, ◌+◌, ◌-◌, ◌^◌, ◌≤◌, min, cond, length, Option, None, Bool, true, false, List, [], ◌∷◌, ◌++◌, replicate, Contains, Result, Ok, refl, sym, subst, ◌∙◌, inl, inr, arith}
use Rattle.std.specs.List.{count_by, list_any}
use Rattle.std.specs.Option.{ForSome}
use Rattle.std.proofs.lemmas.List.Sums.{sum_by-append}
use Rattle.std.proofs.lemmas.Bool.{or_cases}
use Rattle.std.proofs.lemmas.List.Folds.{list_any-append}
use Rattle.mix_base.specs.Faults.{Rose}
use Rattle.mix_base.specs.Suites.{SuiteMeaning}
use Rattle.mix_base.specs.declared.shards.Shape.{Shape}
use Rattle.mix_base.proofs.Members.{Contains-head}
use Rattle.replay_disk.specs.Disk.{Areas, AreAtRest, IsCrashed, RackState}
use Rattle.replay_disk.proofs.Laws.{rests_settled}
use Rattle.spent_store.specs.Books.{StoredBook, book_of}
use Rattle.spent_store.specs.Journals.{Journal, sound_with, unopened}
use Rattle.std.proofs.lemmas.List.{length-replicate}
use Rattle.spent_store.specs.Stores.{Left, OpensFrom, StoreState, Stands, OpensToOneOf, IsSameOrMade, StandFor, book_in, opened}
use Rattle.spent_store.specs.declared.faults.Objection.{Objection}
use Rattle.spent_store.proofs.Stages.{standing}
use Rattle.spent_store.proofs.StepLaws.{unopened-old, unopened-made}
use Rattle.mix_shard.specs.Entries.{has_opened, is_opening, was_disk}
use Rattle.mix_shard.specs.Items.{Item}
use Rattle.mix_shard.specs.Kept.{IsAsked, IsStoreOf, Keeps, shard_of}
use Rattle.mix_shard.specs.Shards.{IsCharted, IsKept, ShardState}
use Rattle.mix_shard.specs.Tale.{State, Step, Steps, Unheard, began}
use Rattle.mix_shard.specs.declared.causes.Cause.{Cause}
use Rattle.mix_shard.specs.declared.entries.Told.{Told}
use Rattle.mix_shard.specs.declared.terms.Terms.{Terms}
use Rattle.mix_shard.proofs.Tales.{one_step, steps_told, unheard_told, unheard_none}

-- ---- the rack and the journal

-- what a read gives opens to one of the journal's books, and whatever a crash may leave, where that is known
pub record Gives (tells charted : Type 0) (terms : Terms) (journal : Journal) (areas : Areas) : Type 0 where
  pub reads : tells → Contains journal.books (book_in areas terms.shape terms.limit)
  pub covers : tells → charted → OpensToOneOf terms.shape terms.limit journal.books areas

-- a store that stands on the rack has the one book
pub gives_standing : (tells charted : Type 0) (terms : Terms) (book : StoredBook) (areas : Areas)
    → (tells → StandFor terms.shape terms.limit book areas) → Gives tells charted terms (sound_with book) areas
gives_standing tells charted terms book areas stands = record {
  reads = λ t. subst (λ (r : Result StoredBook Objection). Contains (Ok book ∷ []) r) (sym (stands t).reads)
      (Contains-head (Ok book) []);
  covers = λ t known. standing (record { shape = terms.shape; limit = terms.limit; book = book; is_sound = true; spare = 0 }) areas (stands t);
}

same_or_made : (shape : Shape) (journal : Journal) (old now : Result StoredBook Objection) → Contains journal.books old
    → IsSameOrMade shape old now → Contains (unopened shape journal).books now
same_or_made shape journal old now there (inl same) =
    subst (λ (r : Result StoredBook Objection). Contains (unopened shape journal).books r) (sym same) (unopened-old shape journal old there)
same_or_made shape journal old now there (inr is_made) =
    subst (λ (r : Result StoredBook Objection). Contains (unopened shape journal).books r) (sym is_made) (unopened-made shape journal old there)

-- an opening that failed leaves the old books, with their roots made or not
pub opens_from : (terms : Terms) (journal : Journal) (old now : Areas) → OpensToOneOf terms.shape terms.limit journal.books old
    → OpensFrom terms.shape terms.limit old now → OpensToOneOf terms.shape terms.limit (unopened terms.shape journal).books now
opens_from terms journal old now covers from left =
    let before = from left in
    same_or_made terms.shape journal (opened terms.shape terms.limit old before.0) (opened terms.shape terms.limit now left) (covers before.0) before.1

pub gives_unopened : (tells charted : Type 0) (terms : Terms) (journal : Journal) (old now : Areas) → Gives tells charted terms journal old
    → (tells → IsSameOrMade terms.shape (book_in old terms.shape terms.limit) (book_in now terms.shape terms.limit))
    → (tells → OpensFrom terms.shape terms.limit old now)
    → Gives tells charted terms (unopened terms.shape journal) now
gives_unopened tells charted terms journal old now gives same from = record {
  reads = λ t. same_or_made terms.shape journal (book_in old terms.shape terms.limit) (book_in now terms.shape terms.limit) (gives.reads t) (same t);
  covers = λ t known. opens_from terms journal old now (gives.covers t known) (from t);
}

-- ---- what is charted stays so, and no more is, unless the journal was opened

pub charted_less : (first : Areas) (told own : List Told) → has_opened own ≡ false
    → AreAtRest first ⊎ (has_opened (told ++ own) ≡ true) → AreAtRest first ⊎ (has_opened told ≡ true)
charted_less first told own none (inl rest) = inl rest
charted_less first told own none (inr some) =
    elim (or_cases (list_any is_opening told) (list_any is_opening own) (sym (list_any-append is_opening told own) ∙ some)) [
      | inl before ↦ inr before
      | inr here ↦ absurd (cc)
    ]

-- ---- failures

abbrev pub failed_in : List Told → ℕ
failed_in told = count_by (λ one. was_disk one.entry) told

pub failed_more : (told own : List Told) → failed_in (told ++ own) ≡ failed_in told + failed_in own
failed_more told own = sum_by-append (λ one. cond (was_disk one.entry) 1 0) told own

pub failures_same : (first n before now : ℕ) → min (first + n) (2 ^ 64 - 1) ≤ before → before ≤ now → min (first + n) (2 ^ 64 - 1) ≤ now
failures_same first n before now kept rises = omega (arith, kept, rises)

pub failures_more : (first n before now : ℕ) → min (first + n) (2 ^ 64 - 1) ≤ before → Rose before now → min (first + (n + 1)) (2 ^ 64 - 1) ≤ now
failures_more first n before now kept rose = grind (arith, kept, rose)

-- no entry of these was a failure
pub failures_none : (first before now : ℕ) (told own : List Told) → failed_in own ≡ 0 → before ≤ now
    → min (first + failed_in told) (2 ^ 64 - 1) ≤ before → min (first + failed_in (told ++ own)) (2 ^ 64 - 1) ≤ now
failures_none first before now told own none rises kept =
    let more = failed_more told own in
    omega (arith, more, none, rises, kept)

-- one of these was
pub failures_one : (first before now : ℕ) (told own : List Told) → failed_in own ≡ 1 → Rose before now
    → min (first + failed_in told) (2 ^ 64 - 1) ≤ before → min (first + failed_in (told ++ own)) (2 ^ 64 - 1) ≤ now
failures_one first before now told own one rose kept =
    let more = failed_more told own in
    let counted : failed_in (told ++ own) ≡ failed_in told + 1 = omega (arith, more, one) in
    subst (λ (n : ℕ). min (first + n) (2 ^ 64 - 1) ≤ now) (sym counted) (failures_more first (failed_in told) before now kept rose)

-- ---- the type's facts

-- an entry that opens nothing, and one that is no failure
pub not_among : (one : Told) → is_opening one ≡ false → has_opened (one ∷ []) ≡ false
not_among one not_opening = rw not_opening refl

pub none_failed : (one : Told) → was_disk one.entry ≡ false → failed_in (one ∷ []) ≡ 0
none_failed one not_failed = rw not_failed refl

pub one_failed : (one : Told) → was_disk one.entry ≡ true → failed_in (one ∷ []) ≡ 1
one_failed one failed = rw failed refl

-- how much room there is doesn't matter
pub kept_any : (tells : Type 0) (suite : SuiteMeaning) (shard : ShardState) (spare : ℕ) → IsKept tells suite shard
    → IsKept tells suite (record shard { spare = spare })
kept_any tells suite shard spare kept = record {
  tale = kept.tale;
  reads = kept.reads;
  covers = kept.covers;
  failures = kept.failures;
  no_fewer = kept.no_fewer;
  since_made = kept.since_made;
}

store_stays : (tells : Type 0) (shard : ShardState) (rack : RackState) (store : Option StoreState) → rack.areas ≡ shard.rack.areas
    → ForSome store (IsStoreOf tells shard) → ForSome store (IsStoreOf tells (record shard { rack = rack }))
store_stays tells shard rack store same is one there =
    let of = is one there in
    record {
      shape = of.shape;
      limit = of.limit;
      sound = of.sound;
      stands = λ t. subst (λ (a : Areas). Stands one a) (sym same) (of.stands t);
    }

-- the rack changed in nothing that counts
pub keeps_rack : (tells : Type 0) (suite : SuiteMeaning) (shard : ShardState) (rack : RackState) (store : Option StoreState)
    → rack.areas ≡ shard.rack.areas → shard.rack.faults ≤ rack.faults → Keeps tells suite shard store
    → Keeps tells suite (record shard { rack = rack }) store
keeps_rack tells suite shard rack store same rises keeps = record {
  asked = keeps.asked;
  kept = record {
    tale = keeps.kept.tale;
    reads = λ t. subst (λ (a : Areas). Contains shard.state.journal.books (book_in a shard.terms.shape shard.terms.limit)) (sym same) (keeps.kept.reads t);
    covers = λ t known. subst (λ (a : Areas). OpensToOneOf shard.terms.shape shard.terms.limit shard.state.journal.books a) (sym same) (keeps.kept.covers t known);
    failures = failures_same shard.first.faults (failed_in shard.told) shard.rack.faults rack.faults keeps.kept.failures rises;
    no_fewer = omega (arith, keeps.kept.no_fewer, rises);
    since_made = keeps.kept.since_made;
  };
  store_is = store_stays tells shard rack store same keeps.store_is;
  callers = keeps.callers;
}

-- entries were told
pub keeps_told : (tells : Type 0) (suite : SuiteMeaning) (shard : ShardState) (rack : RackState) (own told : List Told) (state : State) (store store' : Option StoreState) (spare : ℕ)
    → Keeps tells suite shard store
    → told ≡ shard.told ++ own
    → Steps tells suite shard.terms shard.state own state
    → Gives tells (IsCharted (record shard { told = shard.told ++ own })) shard.terms state.journal rack.areas
    → min (shard.first.faults + failed_in (shard.told ++ own)) (2 ^ 64 - 1) ≤ rack.faults
    → shard.rack.faults ≤ rack.faults
    → ForSome store' (IsStoreOf tells (record shard { rack = rack }))
    → length state.done ≡ shard.terms.callers
    → Keeps tells suite (record shard { rack = rack; told = told; state = state; spare = spare }) store'
keeps_told tells suite shard rack own told state store store' spare keeps told_is steps gives failures rises store_is callers =
    subst (λ (entries : List Told). Keeps tells suite (record shard { rack = rack; told = entries; state = state; spare = spare }) store') (sym told_is)
    (record {
      asked = keeps.asked;
      kept = record {
        tale = steps_told tells suite shard.terms (began shard.terms shard.first.areas) shard.state state shard.told own keeps.kept.tale steps;
        reads = gives.reads;
        covers = gives.covers;
        failures = failures;
        no_fewer = omega (arith, keeps.kept.no_fewer, rises);
        since_made = keeps.kept.since_made;
      };
      store_is = λ one there. let of = store_is one there in record { shape = of.shape; limit = of.limit; sound = of.sound; stands = of.stands };
      callers = callers;
    })

-- an entry was told that leaves the rack and the journal alone
pub keeps_beside : (tells : Type 0) (suite : SuiteMeaning) (shard : ShardState) (one : Told) (told : List Told) (state : State) (store : Option StoreState) (spare : ℕ)
    → Keeps tells suite shard store
    → told ≡ shard.told ++ one ∷ []
    → Step tells suite shard.terms one shard.state state
    → state.journal ≡ shard.state.journal → is_opening one ≡ false → was_disk one.entry ≡ false
    → length state.done ≡ shard.terms.callers
    → Keeps tells suite (record shard { told = told; state = state; spare = spare }) store
keeps_beside tells suite shard one told state store spare keeps told_is step same not_opening not_failed callers =
    keeps_told tells suite shard shard.rack (one ∷ []) told state store store spare keeps told_is (one_step tells suite shard.terms shard.state state one step)
    (record {
      reads = λ t. subst (λ (j : Journal). Contains j.books (book_in shard.rack.areas shard.terms.shape shard.terms.limit)) (sym same) (keeps.kept.reads t);
      covers = λ t known. subst (λ (j : Journal). OpensToOneOf shard.terms.shape shard.terms.limit j.books shard.rack.areas) (sym same)
          (keeps.kept.covers t (charted_less shard.first.areas shard.told (one ∷ []) (not_among one not_opening) known));
    })
    (failures_none shard.first.faults shard.rack.faults shard.rack.faults shard.told (one ∷ []) (none_failed one not_failed) (omega arith) keeps.kept.failures)
    (omega arith) keeps.store_is callers

-- an opening failed, and nothing was told
pub keeps_unheard : (tells : Type 0) (suite : SuiteMeaning) (shard : ShardState) (rack : RackState) (state : State) (store : Option StoreState) (spare : ℕ)
    → Keeps tells suite shard store
    → Unheard shard.terms.shape shard.state state
    → Gives tells (IsCharted shard) shard.terms state.journal rack.areas
    → shard.rack.faults ≤ rack.faults
    → length state.done ≡ shard.terms.callers
    → Keeps tells suite (record shard { rack = rack; state = state; spare = spare }) None
keeps_unheard tells suite shard rack state store spare keeps unheard gives rises callers = record {
  asked = keeps.asked;
  kept = record {
    tale = unheard_told tells suite shard.terms (began shard.terms shard.first.areas) shard.state state shard.told keeps.kept.tale unheard;
    reads = gives.reads;
    covers = gives.covers;
    failures = failures_same shard.first.faults (failed_in shard.told) shard.rack.faults rack.faults keeps.kept.failures rises;
    no_fewer = omega (arith, keeps.kept.no_fewer, rises);
    since_made = keeps.kept.since_made;
  };
  store_is = λ one there. absurd (cc);
  callers = callers;
}

-- ---- a beginning

-- at rest the contents are all that a crash may leave
alone_at_rest : (terms : Terms) (areas : Areas) → AreAtRest areas
    → OpensToOneOf terms.shape terms.limit (book_in areas terms.shape terms.limit ∷ []) areas
alone_at_rest terms areas rest left =
    let root = (rest 0 (omega arith)).only left.root left.is_root in
    let one = (rest 1 (omega arith)).only left.one left.is_one in
    let two = (rest 2 (omega arith)).only left.two left.is_two in
    let same : opened terms.shape terms.limit areas left ≡ book_in areas terms.shape terms.limit = cc in
    subst (λ (r : Result StoredBook Objection). Contains (book_in areas terms.shape terms.limit ∷ []) r) (sym same)
    (Contains-head (book_in areas terms.shape terms.limit) [])

-- nothing was done yet
keeps_new : (tells : Type 0) (suite : SuiteMeaning) (terms : Terms) (rack : RackState) (faults room : ℕ) → IsAsked terms → faults ≤ rack.faults
    → Keeps tells suite (shard_of terms rack rack faults [] None [] [] (replicate terms.callers false) room) None
keeps_new tells suite terms rack faults room asked least = record {
  asked = asked;
  kept = record {
    tale = unheard_none terms.shape (began terms rack.areas);
    reads = λ t. Contains-head (book_in rack.areas terms.shape terms.limit) [];
    covers = λ t known. at_first known;
    failures = omega arith;
    no_fewer = omega arith;
    since_made = least;
  };
  store_is = λ one there. absurd (cc);
  callers = length-replicate terms.callers false;
}
  where
    at_first : AreAtRest rack.areas ⊎ (has_opened [] ≡ true) → OpensToOneOf terms.shape terms.limit (book_in rack.areas terms.shape terms.limit ∷ []) rack.areas
    at_first (inl rest) = alone_at_rest terms rack.areas rest
    at_first (inr some) = absurd (cc)

-- the same of a shard whose parts are those at the beginning
pub keeps_begun : (tells : Type 0) (suite : SuiteMeaning) (terms : Terms) (rack first : RackState) (faults : ℕ) (told : List Told) (causes : List Cause) (held : List Item) (done : List Bool) (room : ℕ)
    → IsAsked terms → first ≡ rack → faults ≤ rack.faults → told ≡ [] → causes ≡ [] → held ≡ [] → done ≡ replicate terms.callers false
    → Keeps tells suite (shard_of terms rack first faults told None causes held done room) None
keeps_begun tells suite terms rack first faults told causes held done room asked first_is least told_is causes_is held_is done_is =
    let same : shard_of terms rack first faults told None causes held done room ≡ shard_of terms rack rack faults [] None [] [] (replicate terms.callers false) room
    = (λ i. shard_of terms rack (first_is i) faults (told_is i) None (causes_is i) (held_is i) (done_is i) room) in
    subst (λ (shard : ShardState). Keeps tells suite shard None) (sym same) (keeps_new tells suite terms rack faults room asked least)

-- ---- a crash

-- the book of what a crash left is one of those that it might leave
pub crashed_book : (terms : Terms) (books : List (Result StoredBook Objection)) (old new : Areas) → IsCrashed old new
    → OpensToOneOf terms.shape terms.limit books old → Contains books (book_in new terms.shape terms.limit)
crashed_book terms books old new crashed covers =
    let root = crashed 0 (omega arith) in
    let one = crashed 1 (omega arith) in
    let two = crashed 2 (omega arith) in
    let left : Left old = record { root = root.0; one = one.0; two = two.0; is_root = root.1; is_one = one.1; is_two = two.1 } in
    let same : book_in new terms.shape terms.limit ≡ opened terms.shape terms.limit old left
    = (λ i. book_of (root.2 i).contents (one.2 i).contents (two.2 i).contents terms.shape terms.limit) in
    subst (λ (r : Result StoredBook Objection). Contains books r) (sym same) (covers left)

-- nothing is pending after it
pub crashed_rests : (old new : Areas) → IsCrashed old new → AreAtRest new
crashed_rests old new crashed area within =
    let left = crashed area within in
    rests_settled new area left.0 left.2
