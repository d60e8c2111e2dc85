-- Openings of an unsound journal: what its books become, and that what is told of it is true.
use Rattle.std.proofs.Common.{◌≡◌, ◌≢◌, ℕ, ◌+◌, ◌-◌, ◌^◌, ◌≤◌, min, true, false, List, [], ◌∷◌, ◌++◌, length, Contains, Option, Some, None, Result, Ok, Err, refl, sym, ap, subst, ◌∙◌, inr, arith}
use Rattle.std.specs.Result.{IsErrOf, result_err}
use Rattle.mix_base.specs.Suites.{SuiteMeaning}
use Rattle.mix_base.specs.declared.shards.Shape.{Shape}
use Rattle.replay_disk.specs.Disk.{Areas, Owes, RackState}
use Rattle.spent_store.specs.Books.{StoredBook, book_of}
use Rattle.spent_store.specs.Changes.{made_where_read}
use Rattle.spent_store.specs.Faults.{Refuses}
use Rattle.spent_store.specs.Journals.{Journal, Opened, OpensOne, sound_with, unopened}
use Rattle.spent_store.specs.Seen.{summary}
use Rattle.spent_store.specs.Stores.{IsSameOrMade, OpensFrom, OpensJournal, OpensToOneOf, SameContents, Stands, StoreState, book_in}
use Rattle.spent_store.specs.declared.summary.Book.{Book}
use Rattle.replay_disk.specs.Moments.{AtEachMoment}
use Rattle.replay_disk.proofs.Laws.{weaker}
use Rattle.spent_store.specs.declared.faults.Objection.{Objection}
use Rattle.spent_store.specs.declared.faults.Objection.TheVariants as objection
use Rattle.spent_store.specs.declared.faults.OpenStore.{OpenStore}
use Rattle.spent_store.specs.declared.faults.OpenStore.TheVariants.{Failed, Foreign, OtherShape, Memory}
use Rattle.mix_shard.specs.Entries.{is_disk, is_opening, was_disk, with_answer}
use Rattle.mix_shard.specs.Faults.{ObjectsAmong, hindrance}
use Rattle.mix_shard.specs.Kept.{Asked, Asks, IsStoreOf, Keeps, books_after, books_of, journal_now}
use Rattle.mix_shard.specs.Shards as shards
use Rattle.mix_shard.specs.Shards.{IsCharted, RefusesOpening, SameButRack, ShardState}
use Rattle.mix_shard.specs.Tale.{Hinders, Reopens, Says, State, StaysUnsound, Step}
use Rattle.mix_shard.specs.declared.causes.Cause.{Cause}
use Rattle.mix_shard.specs.declared.causes.Cause.TheVariants.{Unopened}
use Rattle.mix_shard.specs.declared.entries.Answer.{Answer}
use Rattle.mix_shard.specs.declared.entries.Answer.TheVariants as answers
use Rattle.mix_shard.specs.declared.entries.Entry.{Entry}
use Rattle.mix_shard.specs.declared.entries.Entry.TheVariants.{Claim, Take, Rotate, Done, Reopened}
use Rattle.mix_shard.specs.declared.entries.Told.{Told}
use Rattle.mix_shard.specs.declared.terms.Terms.{Terms}
use Rattle.spent_store.specs.Stores.{StandFor}
use Rattle.std.proofs.lemmas.List.Sums.{fold-append}
use Rattle.mix_shard.proofs.Keeping.{Gives, charted_less, failed_in, failures_none, failures_one, failures_same, opens_from, gives_standing, gives_unopened, keeps_told, keeps_unheard, none_failed, not_among, one_failed}
use Rattle.mix_shard.proofs.Tales.{one_step, unheard_once}

-- ---- the journal

pub unsound_none : (store : Option StoreState) (books : List (Result StoredBook Objection)) → (journal_now store books).is_sound ≡ false → store ≡ None
unsound_none None books unsound = refl
unsound_none (Some store) books unsound = absurd (cc)

-- one cause more
pub books_more : (terms : Terms) (first : Areas) (causes causes' : List Cause) (one : Cause) → causes' ≡ causes ++ one ∷ []
    → books_of terms first causes' ≡ books_after terms.shape (books_of terms first causes) one
books_more terms first causes causes' one more =
    ap (books_of terms first) more
    ∙ fold-append (books_after terms.shape) (book_in first terms.shape terms.limit ∷ []) causes (one ∷ [])

pub journal_unopened : (terms : Terms) (first : Areas) (store : Option StoreState) (causes causes' : List Cause)
    → (journal_now store (books_of terms first causes)).is_sound ≡ false → causes' ≡ causes ++ Unopened ∷ []
    → journal_now store (books_of terms first causes') ≡ unopened terms.shape (journal_now store (books_of terms first causes))
journal_unopened terms first (Some store) causes causes' unsound more = absurd (cc)
journal_unopened terms first None causes causes' unsound more = ap (journal_now None) (books_more terms first causes causes' Unopened more)

-- ---- what an opening answers

-- the rack's count never falls
pub rises : (most : ℕ) (fault : OpenStore) (old new : RackState) → Owes most (IsErrOf {T = StoreState} (Err fault) Failed) old new → old.faults ≤ new.faults
rises most Failed old new owes = let rose = owes.rose refl in omega (arith, rose)
rises most (Foreign area at) old new owes = let same = owes.no_fault (λ e. absurd (cc)) in omega (arith, same)
rises most (OtherShape stored) old new owes = let same = owes.no_fault (λ e. absurd (cc)) in omega (arith, same)
rises most Memory old new owes = let same = owes.no_fault (λ e. absurd (cc)) in omega (arith, same)

objected : (books : List (Result StoredBook Objection)) (read : Result StoredBook Objection) (against : Objection)
    → Contains books read → result_err read ≡ Some against → Contains books (Err against)
objected books (Ok book) against there is = absurd (cc)
objected books (Err other) against there is =
    let same : other ≡ against = cc in
    subst (λ (o : Objection). Contains books (Err o)) same there

-- what it objects to is one of the journal's books
pub objects_among : (books : List (Result StoredBook Objection)) (read : Result StoredBook Objection) (fault : OpenStore)
    → Contains books read → Refuses fault (result_err read) → ObjectsAmong books fault
objects_among books read (Foreign area at) there refuses = objected books read (objection.Foreign area at) there refuses
objects_among books read (OtherShape stored) there refuses = objected books read (objection.OtherShape stored) there refuses
objects_among books read Failed there refuses = tt
objects_among books read Memory there refuses = tt

hinders : (tells : Type 0) (books : List (Result StoredBook Objection)) (read : Result StoredBook Objection) (fault : OpenStore) (answer : Answer)
    → hindrance fault ≡ Some answer → (tells → Contains books read) → (tells → Refuses fault (result_err read)) → Hinders tells answer books
hinders tells books read Failed answer is there refuses =
    let same : answers.Disk ≡ answer = cc in subst (λ (a : Answer). Hinders tells a books) same tt
hinders tells books read (Foreign area at) answer is there refuses =
    let same : answers.Journal ≡ answer = cc in
    subst (λ (a : Answer). Hinders tells a books) same (λ t. (objection.Foreign area at, objected books read (objection.Foreign area at) (there t) (refuses t)))
hinders tells books read (OtherShape stored) answer is there refuses =
    let same : answers.Journal ≡ answer = cc in
    subst (λ (a : Answer). Hinders tells a books) same (λ t. (objection.OtherShape stored, objected books read (objection.OtherShape stored) (there t) (refuses t)))
hinders tells books read Memory answer is there refuses = absurd (cc)

-- ---- the entry of the call that asked

answered_disk : (suite : SuiteMeaning) (terms : Terms) (told : Told) (entry : Entry) (state : State) (answer : Answer) → Asked suite terms told entry state
    → was_disk (with_answer answer entry) ≡ is_disk answer
answered_disk suite terms told (Claim caller number epoch tag at other) state answer asked = refl
answered_disk suite terms told (Rotate caller moment other) state answer asked = refl
answered_disk suite terms told (Take caller number dest moment) state answer asked = absurd asked
answered_disk suite terms told (Done caller) state answer asked = absurd asked
answered_disk suite terms told (Reopened caller floor pairs) state answer asked = absurd asked

opens_nothing : (suite : SuiteMeaning) (terms : Terms) (told : Told) (entry : Entry) (state : State) (answer : Answer) → Asked suite terms told entry state
    → is_opening (record told { entry = with_answer answer entry }) ≡ false
opens_nothing suite terms told (Claim caller number epoch tag at other) state answer asked = refl
opens_nothing suite terms told (Rotate caller moment other) state answer asked = refl
opens_nothing suite terms told (Take caller number dest moment) state answer asked = absurd asked
opens_nothing suite terms told (Done caller) state answer asked = absurd asked
opens_nothing suite terms told (Reopened caller floor pairs) state answer asked = absurd asked

pub says_unsound : (tells : Type 0) (suite : SuiteMeaning) (terms : Terms) (told : Told) (entry : Entry) (answer : Answer) (old new : State)
    → Asked suite terms told entry old → StaysUnsound tells terms answer old new
    → Says tells suite terms (record told { entry = with_answer answer entry }) (with_answer answer entry) old new
says_unsound tells suite terms told (Claim caller number epoch tag at other) answer old new asked stays =
    let of = asked.2 in
    (asked.0, asked.1, record { is_held = of.is_held; setup = of.setup; number_is = of.number_is; epoch_is = of.epoch_is; tag_is = of.tag_is; at_is = of.at_is; packet = of.packet }, inr stays)
says_unsound tells suite terms told (Rotate caller moment other) answer old new asked stays = inr stays
says_unsound tells suite terms told (Take caller number dest moment) answer old new asked stays = absurd asked
says_unsound tells suite terms told (Done caller) answer old new asked stays = absurd asked
says_unsound tells suite terms told (Reopened caller floor pairs) answer old new asked stays = absurd asked

failures_told : (fault : OpenStore) (answer : Answer) (most first : ℕ) (told : List Told) (one : Told) (old new : RackState) → hindrance fault ≡ Some answer
    → was_disk one.entry ≡ is_disk answer → Owes most (IsErrOf {T = StoreState} (Err fault) Failed) old new
    → min (first + failed_in told) (2 ^ 64 - 1) ≤ old.faults → min (first + failed_in (told ++ one ∷ [])) (2 ^ 64 - 1) ≤ new.faults
failures_told Failed answer most first told one old new is disk owes kept =
    let was : was_disk one.entry ≡ true = cc in
    failures_one first old.faults new.faults told (one ∷ []) (one_failed one was) (owes.rose refl) kept
failures_told (Foreign area at) answer most first told one old new is disk owes kept =
    let was : was_disk one.entry ≡ false = cc in
    failures_none first old.faults new.faults told (one ∷ []) (none_failed one was) (rises most (Foreign area at) old new owes) kept
failures_told (OtherShape stored) answer most first told one old new is disk owes kept =
    let was : was_disk one.entry ≡ false = cc in
    failures_none first old.faults new.faults told (one ∷ []) (none_failed one was) (rises most (OtherShape stored) old new owes) kept
failures_told Memory answer most first told one old new is disk owes kept = absurd (cc)

-- ---- what a call answers for an opening

pub refuses_hindered : (fault : OpenStore) (answer : Answer) (old new : ShardState) → hindrance fault ≡ Some answer → shards.Unopened old new → RefusesOpening fault old new
refuses_hindered Failed answer old new is unopened = unopened
refuses_hindered (Foreign area at) answer old new is unopened = unopened
refuses_hindered (OtherShape stored) answer old new is unopened = unopened
refuses_hindered Memory answer old new is unopened = absurd (cc)

pub refuses_wanting : (fault : OpenStore) (old new : ShardState) → hindrance fault ≡ None → SameButRack old new → RefusesOpening fault old new
refuses_wanting Failed old new is same = absurd (cc)
refuses_wanting (Foreign area at) old new is same = absurd (cc)
refuses_wanting (OtherShape stored) old new is same = absurd (cc)
refuses_wanting Memory old new is same = same

-- ---- the type's facts after an opening

module _ (tells : Type 0) (suite : SuiteMeaning) (shard : ShardState) (rack : RackState) (store : Option StoreState) (keeps : Keeps tells suite shard store)
    (unsound : shard.state.journal.is_sound ≡ false) (none : store ≡ None) where
  abbrev read : Result StoredBook Objection
  read = book_in shard.rack.areas shard.terms.shape shard.terms.limit

  taken : (found : Result StoredBook Objection) (book : StoredBook) → Contains shard.state.journal.books found → made_where_read shard.terms.shape found ≡ Ok book
      → OpensOne shard.terms.shape shard.state.journal Opened (sound_with book)
  taken (Ok one) book there is = let same : book ≡ _ = cc in (one, there, ap sound_with same)
  taken (Err against) book there is = absurd (cc)

  pub says_reopened : (book : Book) (opened : StoreState) → book ≡ summary opened.book → (tells → made_where_read shard.terms.shape read ≡ Ok opened.book)
      → Reopens tells shard.terms book.floor book.spent shard.state (record shard.state { journal = sound_with opened.book })
  says_reopened book opened summed made = record {
    book = opened.book;
    unsound = unsound;
    opens = λ t. taken read opened.book (keeps.kept.reads t) (made t);
    floor_is = ap (λ (b : Book). b.floor) summed;
    spent_is = ap (λ (b : Book). b.spent) summed;
    new_is = refl;
  }

  -- the store was opened
  pub keeps_reopened : (one : Told) (told : List Told) (state : State) (opened : StoreState) (spare : ℕ)
      → told ≡ shard.told ++ one ∷ []
      → Step tells suite shard.terms one shard.state state
      → state.journal ≡ sound_with opened.book → length state.done ≡ shard.terms.callers
      → was_disk one.entry ≡ false
      → opened.shape ≡ shard.terms.shape → opened.limit ≡ shard.terms.limit → opened.is_sound ≡ true → (tells → Stands opened rack.areas)
      → shard.rack.faults ≤ rack.faults
      → Keeps tells suite (record shard { rack = rack; told = told; state = state; spare = spare }) (Some opened)
  keeps_reopened one told state opened spare told_is step journal callers no_disk shape limit sound stands rise =
      keeps_told tells suite shard rack (one ∷ []) told state store (Some opened) spare keeps told_is
      (one_step tells suite shard.terms shard.state state one step)
      (subst (λ (j : _). Gives tells (IsCharted (record shard { told = shard.told ++ one ∷ [] })) shard.terms j rack.areas) (sym journal)
      (gives_standing tells _ shard.terms opened.book rack.areas (λ t. stand_for t)))
      (failures_none shard.first.faults shard.rack.faults rack.faults shard.told (one ∷ []) (none_failed one no_disk) rise keeps.kept.failures)
      rise
      (λ other is. is_store other is)
      callers
    where
      stand_for : tells → StandFor shard.terms.shape shard.terms.limit opened.book rack.areas
      stand_for t = subst (λ (s : Shape). StandFor s shard.terms.limit opened.book rack.areas) shape
          (subst (λ (l : ℕ). StandFor opened.shape l opened.book rack.areas) limit (stands t))

      is_store : (other : StoreState) → Some opened ≡ Some other → IsStoreOf tells (record shard { rack = rack }) other
      is_store other is =
          let same : opened ≡ other = cc in
          subst (λ (s : StoreState). IsStoreOf tells (record shard { rack = rack }) s) same (record { shape = shape; limit = limit; sound = sound; stands = stands })

  -- the opening failed, and the entry of the call that asked was told
  pub keeps_refused : (fault : OpenStore) (answer : Answer) (asked : Told) (most : ℕ) (told : List Told) (state : State) (spare : ℕ)
      → hindrance fault ≡ Some answer
      → Asks suite shard.terms shard.state asked
      → told ≡ shard.told ++ record asked { entry = with_answer answer asked.entry } ∷ []
      → state ≡ record shard.state { journal = unopened shard.terms.shape shard.state.journal }
      → Owes most (IsErrOf {T = StoreState} (Err fault) Failed) shard.rack rack
      → (tells → Refuses fault (result_err read))
      → (tells → IsSameOrMade shard.terms.shape read (book_in rack.areas shard.terms.shape shard.terms.limit))
      → (tells → OpensFrom shard.terms.shape shard.terms.limit shard.rack.areas rack.areas)
      → Keeps tells suite (record shard { rack = rack; told = told; state = state; spare = spare }) store
  keeps_refused fault answer asked most told state spare hinder asks told_is state_is owes refuses same from =
      subst (λ (s : Option StoreState). Keeps tells suite (record shard { rack = rack; told = told; state = state; spare = spare }) s) (sym none)
      (subst (λ (s : State). Keeps tells suite (record shard { rack = rack; told = told; state = s; spare = spare }) None) (sym state_is)
      (keeps_told tells suite shard rack (one ∷ []) told after store None spare keeps told_is
      (one_step tells suite shard.terms shard.state after one
      (says_unsound tells suite shard.terms asked asked.entry answer shard.state after asks
      (record { unsound = unsound; why = hinders tells shard.state.journal.books read fault answer hinder keeps.kept.reads refuses; new_is = refl })))
      (record { reads = gives.reads; covers = λ t known. gives.covers t (charted_less shard.first.areas shard.told (one ∷ []) (not_among one (opens_nothing suite shard.terms asked asked.entry shard.state answer asks)) known) })
      (failures_told fault answer most shard.first.faults shard.told one shard.rack rack hinder (answered_disk suite shard.terms asked asked.entry shard.state answer asks) owes keeps.kept.failures)
      (rises most fault shard.rack rack owes)
      (λ other is. absurd (cc))
      keeps.callers))
    where
      one : Told
      one = record asked { entry = with_answer answer asked.entry }

      after : State
      after = record shard.state { journal = unopened shard.terms.shape shard.state.journal }

      gives : Gives tells (IsCharted shard) shard.terms (unopened shard.terms.shape shard.state.journal) rack.areas
      gives = gives_unopened tells (IsCharted shard) shard.terms shard.state.journal shard.rack.areas rack.areas
          (record { reads = keeps.kept.reads; covers = keeps.kept.covers }) same from

  -- it failed, and nothing was told
  pub keeps_unopened : (fault : OpenStore) (most : ℕ) (state : State) (spare : ℕ)
      → state ≡ record shard.state { journal = unopened shard.terms.shape shard.state.journal }
      → Owes most (IsErrOf {T = StoreState} (Err fault) Failed) shard.rack rack
      → (tells → IsSameOrMade shard.terms.shape read (book_in rack.areas shard.terms.shape shard.terms.limit))
      → (tells → OpensFrom shard.terms.shape shard.terms.limit shard.rack.areas rack.areas)
      → Keeps tells suite (record shard { rack = rack; state = state; spare = spare }) store
  keeps_unopened fault most state spare state_is owes same from =
      subst (λ (s : Option StoreState). Keeps tells suite (record shard { rack = rack; state = state; spare = spare }) s) (sym none)
      (subst (λ (s : State). Keeps tells suite (record shard { rack = rack; state = s; spare = spare }) None) (sym state_is)
      (keeps_unheard tells suite shard rack (record shard.state { journal = unopened shard.terms.shape shard.state.journal }) store spare keeps
      (unheard_once shard.terms.shape shard.state unsound)
      (gives_unopened tells (IsCharted shard) shard.terms shard.state.journal shard.rack.areas rack.areas
      (record { reads = keeps.kept.reads; covers = keeps.kept.covers }) same from)
      (rises most fault shard.rack rack owes)
      keeps.callers))

  -- memory was wanting
  pub keeps_wanting : (fault : OpenStore) (most : ℕ) → hindrance fault ≡ None
      → Owes most (IsErrOf {T = StoreState} (Err fault) Failed) shard.rack rack
      → (tells → fault ≢ Failed → SameContents shard.rack.areas rack.areas)
      → (tells → OpensJournal shard.terms.shape shard.terms.limit shard.rack.areas (Err fault) rack.areas)
      → Keeps tells suite (record shard { rack = rack }) store
  keeps_wanting Failed most hinder owes unwritten journal = absurd (cc)
  keeps_wanting (Foreign area at) most hinder owes unwritten journal = absurd (cc)
  keeps_wanting (OtherShape stored) most hinder owes unwritten journal = absurd (cc)
  keeps_wanting Memory most hinder owes unwritten journal = record {
    asked = keeps.asked;
    kept = record {
      tale = keeps.kept.tale;
      reads = λ t. subst (λ (r : Result StoredBook Objection). Contains shard.state.journal.books r) (sym (same_book t)) (keeps.kept.reads t);
      covers = λ t known. let opening = journal t shard.state.journal.books (keeps.kept.covers t known) in
          subst (λ (j : Journal). OpensToOneOf shard.terms.shape shard.terms.limit j.books rack.areas) opening.opens opening.covers;
      failures = failures_same shard.first.faults (failed_in shard.told) shard.rack.faults rack.faults keeps.kept.failures rise;
      no_fewer = omega (arith, keeps.kept.no_fewer, rise);
      since_made = keeps.kept.since_made;
    };
    store_is = λ other is. absurd (cc);
    callers = keeps.callers;
  }
    where
      rise : shard.rack.faults ≤ rack.faults
      rise = rises most Memory shard.rack rack owes

      same_book : tells → book_in rack.areas shard.terms.shape shard.terms.limit ≡ read
      same_book t =
          let contents = unwritten t (λ same. absurd (cc)) in
          (λ i. book_of (contents.root i) (contents.one i) (contents.two i) shard.terms.shape shard.terms.limit)

  -- at every moment of an opening a crash leaves the old books, with their roots made or not
  pub moments_opening : (new : RackState) (t : tells) → IsCharted shard
      → AtEachMoment (OpensFrom shard.terms.shape shard.terms.limit shard.rack.areas) shard.rack new
      → AtEachMoment (OpensToOneOf shard.terms.shape shard.terms.limit (unopened shard.terms.shape shard.state.journal).books) shard.rack new
  moments_opening new t known moments =
      weaker (OpensFrom shard.terms.shape shard.terms.limit shard.rack.areas)
      (OpensToOneOf shard.terms.shape shard.terms.limit (unopened shard.terms.shape shard.state.journal).books) shard.rack new
      (λ areas from. opens_from shard.terms shard.state.journal shard.rack.areas areas (keeps.kept.covers t known) from) moments
