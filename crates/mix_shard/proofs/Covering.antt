-- Through a tale: a pair that all books cover stays covered, a claim that was accepted covers its pair, which no later one
-- takes again, and no pair comes into a book that wasn't there and isn't claimed.
use Rattle.std.proofs.Common.{◌≡◌, ◌⊎◌, ℕ, zero, suc, ◌==◌, ◌&&◌, true, false, List, [], ◌∷◌, ◌++◌, map, Contains, None, Result, Ok, Err, refl, sym, ap, subst, ◌∙◌, inl, inr, arith}
use Rattle.std.specs.Bool.{⊤}
use Rattle.std.specs.List.{All, flat_map, list_any}
use Rattle.std.specs.Result.{IsOk}
use Rattle.std.specs.Str.{bytes_eq}
use Rattle.std.proofs.lemmas.Bool.{and_from, eq-eqb, or_cases, or_left, or_right}
use Rattle.std.proofs.lemmas.List.Elements.{All-append, All-cons, All-contains, All-contains_itself, All-head, All-map, All-nil, All-tail, All-weaker, Contains-append_left, Contains-append_right, Contains-append_cases}
use Rattle.std.proofs.lemmas.Slice.Eq.{bytes_eq-Decides}
use Rattle.mix_base.specs.Suites.{SuiteMeaning}
use Rattle.mix_base.specs.declared.shards.Shape.{Shape}
use Rattle.mix_base.proofs.Members.{Contains-cons_cases, Contains-head, none_in_empty}
use Rattle.spent_store.specs.Books.{EpochLog, StoredBook, IsCovered, is_spent, pairs}
use Rattle.spent_store.specs.Changes.{claim_stages, made, made_where_read, raised, retirement_stages}
use Rattle.spent_store.specs.Changes as changes
use Rattle.spent_store.specs.Journals.{Journal, Claims, Opened, OpensOne, Retires, claim_refusal, sound_with, unopened, unsound_with}
use Rattle.spent_store.specs.declared.faults.ClaimFault.{ClaimFault}
use Rattle.spent_store.specs.declared.faults.ClaimFault.TheVariants as claim
use Rattle.spent_store.specs.declared.faults.Objection.{Objection}
use Rattle.spent_store.specs.declared.faults.RetireFault.{RetireFault}
use Rattle.spent_store.specs.declared.faults.RetireFault.TheVariants as retire
use Rattle.spent_store.proofs.ClaimLaws.{claim_accepted}
use Rattle.spent_store.proofs.CoverLaws.{claim_stages-covered, claim_stages-only, claimed-spent, retirement_stages-covered, retirement_stages-only}
use Rattle.epoch_keys.specs.Epochs.{least_live}
use Rattle.mix_shard.specs.Entries.{claim_answer, has_opened, opens_by}
use Rattle.mix_shard.specs.Laws.{AcceptsNew, AddsOnlyClaimed, AllCover, AreBooks, IsOwn, KeepsAccepted, KeepsCovered, NoneTwice, accepted, accepted_by, all_pairs, claimed, claimed_by, pairs_in}
use Rattle.mix_shard.specs.Tale.{Says, State, StaysUnsound, Tale, Unheard, unopened_by}
use Rattle.mix_shard.proofs.Tales.{unheard_none}
use Rattle.mix_shard.specs.declared.entries.Answer.{Answer}
use Rattle.mix_shard.specs.declared.entries.Answer.TheVariants.{Taken}
use Rattle.mix_shard.specs.declared.entries.Entry.{Entry}
use Rattle.mix_shard.specs.declared.entries.Entry.TheVariants.{Claim, Take, Rotate, Done, Reopened}
use Rattle.mix_shard.specs.declared.entries.Told.{Told}
use Rattle.mix_shard.specs.declared.terms.Terms.{Terms}

-- ---- what holds of all

-- what is in a list
all_within : {X : Type 0} (P : X → Type 0) (xs : List X) → ((x : X) → Contains xs x → P x) → All P xs
all_within P xs each = All-weaker (Contains xs) P each xs (All-contains_itself xs)

all_left : {X : Type 0} (P : X → Type 0) (xs ys : List X) → All P (xs ++ ys) → All P xs
all_left P xs ys all = all_within P xs (λ x there. All-contains P (xs ++ ys) x all (Contains-append_left xs ys x there))

all_right : {X : Type 0} (P : X → Type 0) (xs ys : List X) → All P (xs ++ ys) → All P ys
all_right P xs ys all = all_within P ys (λ y there. All-contains P (xs ++ ys) y all (Contains-append_right xs ys y there))

all_one : {X : Type 0} (P : X → Type 0) (x : X) → P x → All P (x ∷ [])
all_one P x holds = All-cons P x [] holds (All-nil P)

only_one : {X : Type 0} (x y : X) → Contains (x ∷ []) y → x ≡ y
only_one x y there = elim (Contains-cons_cases x [] y there) [ inl same ↦ same | inr none ↦ absurd (none_in_empty y none) ]

-- ---- facts of books that stay through a tale

-- a fact that stays when a root is made, when one of these pairs is claimed, when epochs are retired, and by an opening
pub record Stays (tells : Type 0) (shape : Shape) (among : ℕ × List ℕ → Type 0) (fact : Result StoredBook Objection → Type 0) : Type 0 where
  pub root : (book : Result StoredBook Objection) → fact book → fact (made_where_read shape book)
  pub claim : (epoch : ℕ) (tag : List ℕ) (least : ℕ) (book : StoredBook) → among (epoch, tag) → fact (Ok book)
      → All (λ stage. fact (Ok stage)) (claim_stages epoch (tag ∷ []) least book)
  pub retirement : (floor : ℕ) (book : StoredBook) → fact (Ok book) → All (λ stage. fact (Ok stage)) (retirement_stages floor book)
  pub opening : (old : Journal) (book : StoredBook) → (tells → OpensOne shape old Opened (sound_with book)) → All fact old.books → fact (Ok book)

module _ (tells : Type 0) (suite : SuiteMeaning) (terms : Terms) (among : ℕ × List ℕ → Type 0) (fact : Result StoredBook Objection → Type 0) (stays : Stays tells terms.shape among fact) where
  unopened_keeps : (journal : Journal) → All fact journal.books → All fact (unopened terms.shape journal).books
  unopened_keeps journal all =
      All-append fact journal.books (map (made_where_read terms.shape) journal.books) all
      (All-map fact (made_where_read terms.shape) journal.books
      (All-weaker fact (λ (book : Result StoredBook Objection). fact (made_where_read terms.shape book)) stays.root journal.books all))

  times_keep : (times : ℕ) (journal : Journal) → All fact journal.books → All fact (unopened_by terms.shape times journal).books
  times_keep zero journal all = all
  times_keep (suc times) journal all = unopened_keeps (unopened_by terms.shape times journal) (times_keep times journal all)

  becomes : (new journal : Journal) → new ≡ journal → All fact journal.books → All fact new.books
  becomes new journal same all = subst (λ (j : Journal). All fact j.books) (sym same) all

  unheard_keeps : (old new : State) → Unheard terms.shape old new → All fact old.journal.books → All fact new.journal.books
  unheard_keeps old new unheard all =
      becomes new.journal (unopened_by terms.shape unheard.times old.journal) (ap (λ (s : State). s.journal) unheard.new_is)
      (times_keep unheard.times old.journal all)

  unsound_keeps : (answer : Answer) (old new : State) → StaysUnsound tells terms answer old new → All fact old.journal.books → All fact new.journal.books
  unsound_keeps answer old new unsound all =
      becomes new.journal (unopened terms.shape old.journal) (ap (λ (s : State). s.journal) unsound.new_is) (unopened_keeps old.journal all)

  claim_keeps : (limit caller number epoch : ℕ) (tag : List ℕ) (at least : ℕ) (book : StoredBook) (result : Result (Unit {0}) ClaimFault) (new : Journal)
      → All among (claimed_by (Claim caller number epoch tag at (claim_answer result))) → Claims limit epoch tag least book result new → fact (Ok book) → All fact new.books
  claim_keeps limit caller number epoch tag at least book (Ok done) new is claims holds =
      let stages = stays.claim epoch tag least book (is 0 (epoch, tag) (omega arith)) holds in
      becomes new (sound_with (changes.claimed epoch (tag ∷ []) least book)) claims.1 (all_one fact _ (stages 3 book (omega arith)))
  claim_keeps limit caller number epoch tag at least book (Err claim.Failed) new is claims holds =
      let stages = stays.claim epoch tag least book (is 0 (epoch, tag) (omega arith)) holds in
      becomes new _ claims.1 (All-map fact (λ stage. Ok stage) (claim_stages epoch (tag ∷ []) least book) stages)
  claim_keeps limit caller number epoch tag at least book (Err (claim.Retired floor)) new is claims holds = becomes new (sound_with book) claims.1 (all_one fact (Ok book) holds)
  claim_keeps limit caller number epoch tag at least book (Err claim.Spent) new is claims holds = becomes new (sound_with book) claims.1 (all_one fact (Ok book) holds)
  claim_keeps limit caller number epoch tag at least book (Err claim.ShardFull) new is claims holds = becomes new (sound_with book) claims.1 (all_one fact (Ok book) holds)

  retirement_keeps : (limit floor : ℕ) (book : StoredBook) (result : Result (Unit {0}) RetireFault) (new : Journal) → Retires limit floor book result new
      → fact (Ok book) → All fact new.books
  retirement_keeps limit floor book (Ok done) new retires holds =
      becomes new (sound_with (raised floor book)) retires.1 (all_one fact _ (stays.retirement floor book holds 1 book (omega arith)))
  retirement_keeps limit floor book (Err retire.RootFull) new retires holds = becomes new (sound_with book) retires.1 (all_one fact (Ok book) holds)
  retirement_keeps limit floor book (Err retire.Failed) new retires holds =
      becomes new _ retires.1 (All-map fact (λ stage. Ok stage) (retirement_stages floor book) (stays.retirement floor book holds))

  -- of a sound journal's book
  of_sound : (journal : Journal) (book : StoredBook) → journal ≡ sound_with book → All fact journal.books → fact (Ok book)
  of_sound journal book sound all =
      let moved : All fact (Ok book ∷ []) = subst (λ (j : Journal). All fact j.books) sound all in moved 0 (Ok book) (omega arith)

  says_keeps : (told : Told) (entry : Entry) (old new : State) → All among (claimed_by entry) → Says tells suite terms told entry old new
      → All fact old.journal.books → All fact new.journal.books
  says_keeps told (Claim caller number epoch tag at answer) old new is says all =
      elim says.3 [
        | inl claims ↦
            let item = says.1 in
            let same : Claim caller number epoch tag at answer ≡ Claim caller number item.epoch item.tag at (claim_answer claims.result) =
            cc (says.2.epoch_is, says.2.tag_is, claims.answer_is) in
            claim_keeps terms.limit caller number item.epoch item.tag at (least_live terms.setup.times item.at) claims.book claims.result new.journal
            (subst (λ (e : Entry). All among (claimed_by e)) same is) claims.claims (of_sound old.journal claims.book claims.sound all)
        | inr unsound ↦ unsound_keeps answer old new unsound all
      ]
  says_keeps told (Take caller number dest moment) old new is says all = becomes new.journal old.journal says.journal all
  says_keeps told (Rotate caller moment answer) old new is says all =
      elim says [
        | inl rotates ↦
            retirement_keeps terms.limit (least_live terms.setup.times moment) rotates.book rotates.result new.journal rotates.retires
            (of_sound old.journal rotates.book rotates.sound all)
        | inr unsound ↦ unsound_keeps answer old new unsound all
      ]
  says_keeps told (Done caller) old new is says all = becomes new.journal old.journal (ap (λ (s : State). s.journal) says.1) all
  says_keeps told (Reopened caller floor spent) old new is says all =
      becomes new.journal (sound_with says.book) (ap (λ (s : State). s.journal) says.new_is)
      (all_one fact (Ok says.book) (stays.opening old.journal says.book says.opens all))

  pub tale_keeps : (old new : State) (tale : List Told) → Tale tells suite terms old tale new → All among (claimed tale)
      → All fact old.journal.books → All fact new.journal.books
  tale_keeps old new [] unheard is all = unheard_keeps old new unheard all
  tale_keeps old new (told ∷ others) tale is all =
      let before = unheard_keeps old tale.0 tale.2 all in
      let after = says_keeps told told.entry tale.0 tale.1 (all_left among (claimed_by told.entry) (claimed others) is) tale.3 before in
      tale_keeps tale.1 new others tale.4 (all_right among (claimed_by told.entry) (claimed others) is) after

-- a fact that the making of a root leaves holds of the book that an opening took
opened_holds : (shape : Shape) (fact : Result StoredBook Objection → Type 0) → ((book : Result StoredBook Objection) → fact book → fact (made_where_read shape book))
    → (old : Journal) (book : StoredBook) → OpensOne shape old Opened (sound_with book) → All fact old.books → fact (Ok book)
opened_holds shape fact root old book (found, there, same) all =
    let books : Ok book ∷ [] ≡ Ok (made shape found) ∷ [] = ap (λ (j : Journal). j.books) same in
    let taken : Ok book ≡ Ok (made shape found) = cc in
    subst fact (sym taken) (root (Ok found) (All-contains fact old.books (Ok found) all there))

-- ---- a pair that all books cover

made_covers : (shape : Shape) (pair : ℕ × List ℕ) (book : Result StoredBook Objection) → IsCovered book pair.0 pair.1 → IsCovered (made_where_read shape book) pair.0 pair.1
made_covers shape pair (Ok book) covered = covered
made_covers shape pair (Err objection) covered = covered

covers : (tells : Type 0) → tells → (shape : Shape) (pair : ℕ × List ℕ) → Stays tells shape (λ other. ⊤) (λ book. IsCovered book pair.0 pair.1)
covers tells t shape pair = record {
  root = made_covers shape pair;
  claim = λ epoch tag least book any covered. all_within (λ (stage : StoredBook). IsCovered (Ok stage) pair.0 pair.1) (claim_stages epoch (tag ∷ []) least book)
      (λ stage there. claim_stages-covered epoch (tag ∷ []) least book stage pair.0 pair.1 there covered);
  retirement = λ floor book covered. all_within (λ (stage : StoredBook). IsCovered (Ok stage) pair.0 pair.1) (retirement_stages floor book)
      (λ stage there. retirement_stages-covered floor book stage pair.0 pair.1 there covered);
  opening = λ old book opens all. opened_holds shape (λ (one : Result StoredBook Objection). IsCovered one pair.0 pair.1) (made_covers shape pair) old book (opens t) all;
}

-- a claim that was accepted found a sound journal whose book didn't refuse it
record IsTaken (limit : ℕ) (pair : ℕ × List ℕ) (old new : Journal) : Type 0 where
  pub least : ℕ
  pub book : StoredBook
  pub sound : old ≡ sound_with book
  pub free : claim_refusal limit pair.0 pair.1 least book ≡ None
  pub spends : new ≡ sound_with (changes.claimed pair.0 (pair.1 ∷ []) least book)

taken : (limit epoch : ℕ) (tag : List ℕ) (least : ℕ) (book : StoredBook) (result : Result (Unit {0}) ClaimFault) (old new : Journal) → old ≡ sound_with book
    → Taken ≡ claim_answer result → Claims limit epoch tag least book result new → IsTaken limit (epoch, tag) old new
taken limit epoch tag least book (Ok done) old new sound is claims = record { least = least; book = book; sound = sound; free = claims.0; spends = claims.1 }
taken limit epoch tag least book (Err (claim.Retired floor)) old new sound is claims = absurd (cc)
taken limit epoch tag least book (Err claim.Spent) old new sound is claims = absurd (cc)
taken limit epoch tag least book (Err claim.ShardFull) old new sound is claims = absurd (cc)
taken limit epoch tag least book (Err claim.Failed) old new sound is claims = absurd (cc)

says_taken : (tells : Type 0) (suite : SuiteMeaning) (terms : Terms) (told : Told) (entry : Entry) (old new : State) (pair : ℕ × List ℕ) → Contains (accepted_by entry) pair
    → Says tells suite terms told entry old new → IsTaken terms.limit pair old.journal new.journal
says_taken tells suite terms told (Claim caller number epoch tag at Taken) old new pair there says =
    elim says.3 [
      | inl claims ↦
          let item = says.1 in
          let same : (item.epoch, item.tag) ≡ pair = (λ i. (says.2.epoch_is i, says.2.tag_is i)) ∙ only_one (epoch, tag) pair there in
          subst (λ (p : ℕ × List ℕ). IsTaken terms.limit p old.journal new.journal) same
          (taken terms.limit item.epoch item.tag (least_live terms.setup.times item.at) claims.book claims.result old.journal new.journal claims.sound claims.answer_is claims.claims)
      | inr unsound ↦ absurd unsound.why
    ]
says_taken tells suite terms told _ old new pair there says = absurd (none_in_empty pair there)

-- its pair is covered then
taken_covers : (limit : ℕ) (pair : ℕ × List ℕ) (old new : Journal) → IsTaken limit pair old new → AllCover new pair
taken_covers limit pair old new is =
    subst (λ (j : Journal). AllCover j pair) (sym is.spends)
    (all_one (λ (book : Result StoredBook Objection). IsCovered book pair.0 pair.1) _ (inr (claimed-spent pair.0 (pair.1 ∷ []) pair.1 is.least is.book (Contains-head pair.1 []))))

-- and wasn't before: a spent tag is found among those of its epoch
tag_found : (here epoch : ℕ) (tag : List ℕ) (tags : List (List ℕ)) → Contains {X = ℕ × List ℕ} (map (λ other. (here, other)) tags) (epoch, tag)
    → (here ≡ epoch) × (list_any (λ other. bytes_eq other tag) tags ≡ true)
tag_found here epoch tag [] there = absurd (none_in_empty (epoch, tag) there)
tag_found here epoch tag (first ∷ tags) there =
    elim (Contains-cons_cases (here, first) (map (λ other. (here, other)) tags) (epoch, tag) there) [
      | inl same ↦ (
        ap (λ (p : ℕ × List ℕ). p.0) same,
        or_left (bytes_eq first tag) (list_any (λ other. bytes_eq other tag) tags) ((bytes_eq-Decides first tag).1 (ap (λ (p : ℕ × List ℕ). p.1) same)),
      )
      | inr later ↦
          let found = tag_found here epoch tag tags later in
          (found.0, or_right (bytes_eq first tag) (list_any (λ other. bytes_eq other tag) tags) found.1)
    ]

spent_found : (epoch : ℕ) (tag : List ℕ) (logs : List EpochLog) → Contains {X = ℕ × List ℕ} (flat_map (λ (log : EpochLog). map (λ other. (log.epoch, other)) log.tags) logs) (epoch, tag)
    → list_any (λ (log : EpochLog). log.epoch == epoch && list_any (λ other. bytes_eq other tag) log.tags) logs ≡ true
spent_found epoch tag [] there = absurd (none_in_empty (epoch, tag) there)
spent_found epoch tag (log ∷ logs) there =
    let first = log.epoch == epoch && list_any (λ other. bytes_eq other tag) log.tags in
    let others = list_any (λ (other : EpochLog). other.epoch == epoch && list_any (λ one. bytes_eq one tag) other.tags) logs in
    elim (Contains-append_cases (map (λ other. (log.epoch, other)) log.tags) (flat_map (λ (other : EpochLog). map (λ one. (other.epoch, one)) other.tags) logs) (epoch, tag) there) [
      | inl here ↦
          let found = tag_found log.epoch epoch tag log.tags here in
          or_left first others (and_from (log.epoch == epoch) (list_any (λ other. bytes_eq other tag) log.tags) (eq-eqb log.epoch epoch found.0) found.1)
      | inr later ↦ or_right first others (spent_found epoch tag logs later)
    ]

-- so a claim of a covered pair is refused
covered_refused : (limit epoch : ℕ) (tag : List ℕ) (least : ℕ) (book : StoredBook) → IsCovered (Ok book) epoch tag → claim_refusal limit epoch tag least book ≡ None → ⊥
covered_refused limit epoch tag least book covered free =
    let accepted = claim_accepted limit epoch tag least book free in
    elim covered [
      | inl retired ↦ absurd (omega (arith, retired, accepted.not_retired))
      | inr spent ↦
          let found : is_spent epoch tag book ≡ true = spent_found epoch tag book.logs spent in
          let not_found : is_spent epoch tag book ≡ false = accepted.unspent in
          absurd (cc (found, not_found))
    ]

taken_new : (limit : ℕ) (pair : ℕ × List ℕ) (old new : Journal) → IsTaken limit pair old new → AllCover old pair → ⊥
taken_new limit pair old new is all =
    let moved : AllCover (sound_with is.book) pair = subst (λ (j : Journal). AllCover j pair) is.sound all in
    covered_refused limit pair.0 pair.1 is.least is.book (moved 0 (Ok is.book) (omega arith)) is.free

-- ---- the law of what was accepted, where the rack tells

none_twice_first : (entry : Entry) (others : List (ℕ × List ℕ)) → ((pair : ℕ × List ℕ) → Contains (accepted_by entry) pair → Contains others pair → ⊥)
    → NoneTwice others → NoneTwice (accepted_by entry ++ others)
none_twice_first (Claim caller number epoch tag at Taken) others new once = (new (epoch, tag) (Contains-head (epoch, tag) []), once)
none_twice_first _ others new once = once

module _ (tells : Type 0) (t : tells) (suite : SuiteMeaning) (terms : Terms) where
  pub covered_stays : (old new : State) (tale : List Told) → Tale tells suite terms old tale new → KeepsCovered old.journal new.journal
  covered_stays old new tale told pair all =
      tale_keeps tells suite terms (λ other. ⊤) (λ (book : Result StoredBook Objection). IsCovered book pair.0 pair.1) (covers tells t terms.shape pair) old new tale told
      (λ k d within. tt) all

  pub accepted_stays : (old new : State) (tale : List Told) → Tale tells suite terms old tale new → KeepsAccepted tale new.journal
  accepted_stays old new [] unheard = All-nil (AllCover new.journal)
  accepted_stays old new (told ∷ others) tale =
      All-append (AllCover new.journal) (accepted_by told.entry) (accepted others)
      (all_within (AllCover new.journal) (accepted_by told.entry) (λ pair there.
      covered_stays tale.1 new others tale.4 pair
      (taken_covers terms.limit pair tale.0.journal tale.1.journal (says_taken tells suite terms told told.entry tale.0 tale.1 pair there tale.3))))
      (accepted_stays tale.1 new others tale.4)

  pub accepted_new : (old new : State) (tale : List Told) → Tale tells suite terms old tale new → AcceptsNew old.journal tale
  accepted_new old new [] unheard = All-nil (λ pair. ¬ AllCover old.journal pair)
  accepted_new old new (told ∷ others) tale =
      let to_after : KeepsCovered old.journal tale.1.journal = covered_stays old tale.1 (told ∷ []) (tale.0, tale.1, tale.2, tale.3, unheard_none terms.shape tale.1) in
      All-append (λ pair. ¬ AllCover old.journal pair) (accepted_by told.entry) (accepted others)
      (all_within (λ pair. ¬ AllCover old.journal pair) (accepted_by told.entry) (λ pair there all.
      taken_new terms.limit pair tale.0.journal tale.1.journal (says_taken tells suite terms told told.entry tale.0 tale.1 pair there tale.3)
      (covered_stays old tale.0 [] tale.2 pair all)))
      (All-weaker (λ pair. ¬ AllCover tale.1.journal pair) (λ pair. ¬ AllCover old.journal pair) (λ pair no all. no (to_after pair all)) (accepted others)
      (accepted_new tale.1 new others tale.4))

  pub accepted_once : (old new : State) (tale : List Told) → Tale tells suite terms old tale new → NoneTwice (accepted tale)
  accepted_once old new [] unheard = tt
  accepted_once old new (told ∷ others) tale =
      none_twice_first told.entry (accepted others) (λ pair there again.
      All-contains (λ other. ¬ AllCover tale.1.journal other) (accepted others) pair (accepted_new tale.1 new others tale.4) again
      (taken_covers terms.limit pair tale.0.journal tale.1.journal (says_taken tells suite terms told told.entry tale.0 tale.1 pair there tale.3)))
      (accepted_once tale.1 new others tale.4)

-- ---- the pairs of books

-- a fact on pairs, of those of a book
abbrev AllIn : (ℕ × List ℕ → Type 0) → Result StoredBook Objection → Type 0
AllIn from book = All from (pairs_in book)

made_adds : (shape : Shape) (from : ℕ × List ℕ → Type 0) (book : Result StoredBook Objection) → AllIn from book → AllIn from (made_where_read shape book)
made_adds shape from (Ok book) all = all
made_adds shape from (Err objection) all = all

adds : (tells : Type 0) → tells → (shape : Shape) (from : ℕ × List ℕ → Type 0) → Stays tells shape from (AllIn from)
adds tells t shape from = record {
  root = made_adds shape from;
  claim = λ epoch tag least book is all. all_within (λ (stage : StoredBook). AllIn from (Ok stage)) (claim_stages epoch (tag ∷ []) least book)
      (λ stage there. all_within from (pairs stage) (λ pair spent. claims_only epoch tag least book stage pair is all (claim_stages-only epoch (tag ∷ []) least book stage pair there spent)));
  retirement = λ floor book all. all_within (λ (stage : StoredBook). AllIn from (Ok stage)) (retirement_stages floor book)
      (λ stage there. all_within from (pairs stage) (λ pair spent. All-contains from (pairs book) pair all (retirement_stages-only floor book stage pair there spent)));
  opening = λ old book opens all. opened_holds shape (AllIn from) (made_adds shape from) old book (opens t) all;
}
  where
    claims_only : (epoch : ℕ) (tag : List ℕ) (least : ℕ) (book stage : StoredBook) (pair : ℕ × List ℕ) → from (epoch, tag) → All from (pairs book)
        → Contains (pairs book) pair ⊎ Contains ((epoch, tag) ∷ []) pair → from pair
    claims_only epoch tag least book stage pair is all (inl before) = All-contains from (pairs book) pair all before
    claims_only epoch tag least book stage pair is all (inr new) = subst from (only_one (epoch, tag) pair new) is

all_joined : (from : ℕ × List ℕ → Type 0) (books : List (Result StoredBook Objection)) → All (AllIn from) books → All from (flat_map pairs_in books)
all_joined from [] all = All-nil from
all_joined from (book ∷ books) all =
    All-append from (pairs_in book) (flat_map pairs_in books) (All-head (AllIn from) book books all)
    (all_joined from books (All-tail (AllIn from) book books all))

own_pairs : (books : List (Result StoredBook Objection)) → All (AllIn (Contains (flat_map pairs_in books))) books
own_pairs [] = All-nil (AllIn (Contains []))
own_pairs (book ∷ books) =
    let joined = flat_map pairs_in (book ∷ books) in
    All-cons (AllIn (Contains joined)) book books
    (all_within (Contains joined) (pairs_in book) (λ pair there. Contains-append_left (pairs_in book) (flat_map pairs_in books) pair there))
    (All-weaker (AllIn (Contains (flat_map pairs_in books))) (AllIn (Contains joined)) (λ one all.
    All-weaker (Contains (flat_map pairs_in books)) (Contains joined) (λ pair there. Contains-append_right (pairs_in book) (flat_map pairs_in books) pair there) (pairs_in one) all)
    books (own_pairs books))

pub only_claimed : (tells : Type 0) → tells → (suite : SuiteMeaning) (terms : Terms) (old new : State) (tale : List Told) → Tale tells suite terms old tale new
    → AddsOnlyClaimed old.journal tale new.journal
only_claimed tells t suite terms old new tale told =
    let from = λ (pair : ℕ × List ℕ). Contains (all_pairs old.journal) pair ⊎ Contains (claimed tale) pair in
    let at_first : All (AllIn from) old.journal.books =
    All-weaker (AllIn (Contains (all_pairs old.journal))) (AllIn from) (λ book all. All-weaker (Contains (all_pairs old.journal)) from (λ pair there. inl there) (pairs_in book) all)
    old.journal.books (own_pairs old.journal.books) in
    all_joined from new.journal.books
    (tale_keeps tells suite terms from (AllIn from) (adds tells t terms.shape from) old new tale told (all_within from (claimed tale) (λ pair there. inr there)) at_first)

-- ---- a journal that was opened

made_is_book : (shape : Shape) (book : Result StoredBook Objection) → IsOk book → IsOk (made_where_read shape book)
made_is_book shape (Ok book) is = is
made_is_book shape (Err objection) is = is

are_books : (tells : Type 0) (shape : Shape) → Stays tells shape (λ other. ⊤) IsOk
are_books tells shape = record {
  root = made_is_book shape;
  claim = λ epoch tag least book any is k d within. refl;
  retirement = λ floor book is k d within. refl;
  opening = λ old book opens all. refl;
}

module _ (tells : Type 0) (suite : SuiteMeaning) (terms : Terms) where
  books_stay : (old new : State) (tale : List Told) → Tale tells suite terms old tale new → AreBooks old.journal → AreBooks new.journal
  books_stay old new tale told all = tale_keeps tells suite terms (λ other. ⊤) IsOk (are_books tells terms.shape) old new tale told (λ k d within. tt) all

  says_opened : (told : Told) (entry : Entry) (old new : State) → opens_by entry ≡ true → Says tells suite terms told entry old new → AreBooks new.journal
  says_opened told (Reopened caller floor spent) old new is says =
      subst (λ (s : State). AreBooks s.journal) (sym says.new_is) (all_one (IsOk {T = StoredBook} {E = Objection}) (Ok says.book) refl)
  says_opened told (Claim caller number epoch tag at answer) old new is says = absurd (cc)
  says_opened told (Take caller number dest moment) old new is says = absurd (cc)
  says_opened told (Rotate caller moment answer) old new is says = absurd (cc)
  says_opened told (Done caller) old new is says = absurd (cc)

  pub opened_is_own : (old new : State) (tale : List Told) → Tale tells suite terms old tale new → IsOwn old.journal tale new.journal
  opened_is_own old new tale told (inl books) = books_stay old new tale told books
  opened_is_own old new [] unheard (inr is) = absurd (cc)
  opened_is_own old new (told ∷ others) tale (inr is) =
      elim (or_cases (opens_by told.entry) (has_opened others) is) [
        | inl here ↦ books_stay tale.1 new others tale.4 (says_opened told told.entry tale.0 tale.1 here tale.3)
        | inr later ↦ opened_is_own tale.1 new others tale.4 (inr later)
      ]

-- ---- a crash

-- what a crash leaves is one of the books, and covers what they all covered
pub left_covers : (old : Journal) (book : Result StoredBook Objection) → Contains old.books book → KeepsCovered old (unsound_with (book ∷ []))
left_covers old book there pair all =
    all_one (λ (one : Result StoredBook Objection). IsCovered one pair.0 pair.1) book
    (All-contains (λ (one : Result StoredBook Objection). IsCovered one pair.0 pair.1) old.books book all there)
