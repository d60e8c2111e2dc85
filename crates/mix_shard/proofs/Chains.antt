-- A call that opens the journal and then changes it: what the opening was refused for is told, and whatever a crash leaves of
-- the change is a book on the way of the whole call.
use Rattle.std.proofs.Common.{◌≡◌, ℕ, true, List, [], ◌∷◌, ◌++◌, Contains, Option, Some, None, Result, Ok, Err, is_some, refl, sym, ap, subst, ◌∙◌, inl, inr}
use Rattle.std.specs.List.{flat_map}
use Rattle.std.specs.Result.{IsErrAnd}
use Rattle.std.proofs.lemmas.List.{append-nil}
use Rattle.std.proofs.lemmas.List.Elements.{Contains-append_cases, Contains-append_right}
use Rattle.mix_base.proofs.Members.{Contains-cons_cases, Contains-head, Contains-tail, none_in_empty}
use Rattle.mix_base.specs.Suites.{SuiteMeaning}
use Rattle.mix_base.specs.declared.shards.Shape.{Shape}
use Rattle.replay_disk.specs.Disk.{RackState}
use Rattle.replay_disk.specs.Moments.{AtEachMoment}
use Rattle.replay_disk.proofs.Laws.{chained, weaker}
use Rattle.spent_store.specs.Books.{StoredBook}
use Rattle.spent_store.specs.Changes.{made, made_where_read, with_made}
use Rattle.spent_store.specs.Journals as journals
use Rattle.spent_store.specs.Journals.{Opened, OpensOne, sound_with, unopened}
use Rattle.spent_store.specs.Stores.{OpensToOneOf, StoreState, opened}
use Rattle.spent_store.specs.declared.root.RootRecord.{RootRecord}
use Rattle.spent_store.specs.declared.faults.Objection.{Objection}
use Rattle.spent_store.specs.declared.faults.Objection.TheVariants as objection
use Rattle.spent_store.specs.declared.faults.OpenStore.{OpenStore}
use Rattle.spent_store.specs.declared.faults.OpenStore.TheVariants.{Failed, Foreign, OtherShape, Memory}
use Rattle.spent_store.proofs.StepLaws.{unopened-made}
use Rattle.mix_shard.specs.Entries.{packet_of, with_answer}
use Rattle.mix_shard.specs.Faults.{ObjectsAmong, admit_answer, denied_opening, hindrance, rotate_answer, rotate_opening}
use Rattle.mix_shard.specs.Items.{IsHeld, Item}
use Rattle.mix_shard.specs.Kept.{Asked, Asks, IsSound, ToldFor, journal_now}
use Rattle.mix_shard.specs.Shards.{Adds, IsClaimEntry, IsOpeningBy, IsRotateEntry, ShardState, on_the_way, stages_of}
use Rattle.mix_shard.specs.Tale.{Hinders, IsActive, Reopens, Says, State, Steps}
use Rattle.mix_shard.specs.declared.entries.Answer.{Answer}
use Rattle.mix_shard.specs.declared.entries.Answer.TheVariants as answers
use Rattle.mix_shard.specs.declared.entries.Entry.{Entry}
use Rattle.mix_shard.specs.declared.entries.Entry.TheVariants as entries
use Rattle.mix_shard.specs.declared.entries.Told.{Told}
use Rattle.mix_shard.specs.declared.faults.Denied.{Denied}
use Rattle.mix_shard.specs.declared.faults.RotateFault.{RotateFault}
use Rattle.mix_shard.specs.declared.terms.Terms.{Terms}
use Rattle.mix_shard.proofs.Changes.{Contains-flat_map, moments_opened, on_the_way-opened}
use Rattle.mix_shard.proofs.Openings.{says_unsound}
use Rattle.mix_shard.proofs.Tales.{one_step}

-- ---- what an opening was refused for

hinders_of : (tells : Type 0) (books : List (Result StoredBook Objection)) (fault : OpenStore) (answer : Answer) → hindrance fault ≡ Some answer
    → (tells → ObjectsAmong books fault) → Hinders tells answer books
hinders_of tells books Failed answer is among =
    let same : answers.Disk ≡ answer = cc in subst (λ (a : Answer). Hinders tells a books) same tt
hinders_of tells books (Foreign area at) answer is among =
    let same : answers.Journal ≡ answer = cc in
    subst (λ (a : Answer). Hinders tells a books) same (λ t. (objection.Foreign area at, among t))
hinders_of tells books (OtherShape stored) answer is among =
    let same : answers.Journal ≡ answer = cc in
    subst (λ (a : Answer). Hinders tells a books) same (λ t. (objection.OtherShape stored, among t))
hinders_of tells books Memory answer is among = absurd (cc)

-- by the answer that an opening has, if it has one
adds_by : (tells : Type 0) (suite : SuiteMeaning) (caller : ℕ) (asked : Told) (fault : OpenStore) (old new : ShardState) (Own : List Told → Type 0) (answer : Option Answer)
    → hindrance fault ≡ answer → Asks suite old.terms old.state asked → ToldFor answer asked old new → (tells → ObjectsAmong old.state.journal.books fault)
    → (hindrance fault ≡ None → Own []) → ((one : Answer) → hindrance fault ≡ Some one → Own (record asked { entry = with_answer one asked.entry } ∷ []))
    → Adds tells suite caller Own old new
adds_by tells suite caller asked fault old new Own None is asks told among nothing entry = record {
  began = told.began;
  opening = [];
  by_caller = inl refl;
  own = [];
  own_is = nothing is;
  told = told.told ∙ sym (append-nil old.told);
  steps = told.state;
}
adds_by tells suite caller asked fault old new Own (Some answer) is asks told among nothing entry = record {
  began = told.began;
  opening = [];
  by_caller = inl refl;
  own = record asked { entry = with_answer answer asked.entry } ∷ [];
  own_is = entry answer is;
  told = told.tale;
  steps = one_step tells suite old.terms old.state new.state (record asked { entry = with_answer answer asked.entry })
      (says_unsound tells suite old.terms asked asked.entry answer old.state new.state asks
      (record { unsound = told.unsound; why = hinders_of tells old.state.journal.books fault answer is among; new_is = told.state }));
}

denied_alike : (fault : OpenStore) (answer : Answer) → hindrance fault ≡ Some answer → admit_answer (Err (denied_opening fault)) ≡ Some answer
denied_alike Failed answer is = is
denied_alike (Foreign area at) answer is = is
denied_alike (OtherShape stored) answer is = is
denied_alike Memory answer is = absurd (cc)

denied_none : (fault : OpenStore) → hindrance fault ≡ None → admit_answer (Err (denied_opening fault)) ≡ None
denied_none Failed is = absurd (cc)
denied_none (Foreign area at) is = absurd (cc)
denied_none (OtherShape stored) is = absurd (cc)
denied_none Memory is = refl

rotate_alike : (fault : OpenStore) (answer : Answer) → hindrance fault ≡ Some answer → rotate_answer (Err (rotate_opening fault)) ≡ Some answer
rotate_alike Failed answer is = is
rotate_alike (Foreign area at) answer is = is
rotate_alike (OtherShape stored) answer is = is
rotate_alike Memory answer is = absurd (cc)

rotate_none : (fault : OpenStore) → hindrance fault ≡ None → rotate_answer (Err (rotate_opening fault)) ≡ None
rotate_none Failed is = absurd (cc)
rotate_none (Foreign area at) is = absurd (cc)
rotate_none (OtherShape stored) is = absurd (cc)
rotate_none Memory is = refl

-- of a claim
claim_refused : (tells : Type 0) (suite : SuiteMeaning) (caller : ℕ) (item : Item) (asked : Told) (fault : OpenStore) (why : Denied) (old new : ShardState)
    → why ≡ denied_opening fault
    → asked.entry ≡ entries.Claim caller item.number item.epoch item.tag item.at answers.Disk → packet_of asked ≡ Some item.packet
    → Asks suite old.terms old.state asked → ToldFor (hindrance fault) asked old new → (tells → ObjectsAmong old.state.journal.books fault)
    → Adds tells suite caller (IsClaimEntry caller item (admit_answer (Err why))) old new
claim_refused tells suite caller item asked fault why old new same entry_is packet asks told among =
    subst (λ (d : Denied). Adds tells suite caller (IsClaimEntry caller item (admit_answer (Err d))) old new) (sym same)
    (adds_by tells suite caller asked fault old new (IsClaimEntry caller item (admit_answer (Err (denied_opening fault)))) (hindrance fault) refl asks told among
    (λ none. subst (λ (a : Option Answer). IsClaimEntry caller item a []) (sym (denied_none fault none)) refl)
    (λ answer some. subst (λ (a : Option Answer). IsClaimEntry caller item a (record asked { entry = with_answer answer asked.entry } ∷ [])) (sym (denied_alike fault answer some))
    (record asked { entry = with_answer answer asked.entry }, refl, ap (with_answer answer) entry_is, packet)))

-- of a rotation
rotation_refused : (tells : Type 0) (suite : SuiteMeaning) (caller moment : ℕ) (asked : Told) (fault : OpenStore) (why : RotateFault) (old new : ShardState)
    → why ≡ rotate_opening fault
    → asked.entry ≡ entries.Rotate caller moment answers.Disk
    → Asks suite old.terms old.state asked → ToldFor (hindrance fault) asked old new → (tells → ObjectsAmong old.state.journal.books fault)
    → Adds tells suite caller (IsRotateEntry caller moment (rotate_answer (Err why))) old new
rotation_refused tells suite caller moment asked fault why old new same entry_is asks told among =
    subst (λ (d : RotateFault). Adds tells suite caller (IsRotateEntry caller moment (rotate_answer (Err d))) old new) (sym same)
    (adds_by tells suite caller asked fault old new (IsRotateEntry caller moment (rotate_answer (Err (rotate_opening fault)))) (hindrance fault) refl asks told among
    (λ none. subst (λ (a : Option Answer). IsRotateEntry caller moment a []) (sym (rotate_none fault none)) refl)
    (λ answer some. subst (λ (a : Option Answer). IsRotateEntry caller moment a (record asked { entry = with_answer answer asked.entry } ∷ [])) (sym (rotate_alike fault answer some))
    (record asked { entry = with_answer answer asked.entry }, refl, ap (with_answer answer) entry_is)))

-- by the result that hands the fault on
pub claim_refused_by : (tells : Type 0) (suite : SuiteMeaning) (caller : ℕ) (item : Item) (asked : Told) (fault : OpenStore) (result : Result (Unit {0}) Denied) (old new : ShardState)
    → IsErrAnd result (λ why. why ≡ denied_opening fault)
    → asked.entry ≡ entries.Claim caller item.number item.epoch item.tag item.at answers.Disk → packet_of asked ≡ Some item.packet
    → IsActive caller old.state → IsHeld suite item → item.setup ≡ old.terms.setup
    → ToldFor (hindrance fault) asked old new → (tells → ObjectsAmong old.state.journal.books fault)
    → Adds tells suite caller (IsClaimEntry caller item (admit_answer result)) old new
claim_refused_by tells suite caller item asked fault (Ok done) old new same entry_is packet active held setup told among = absurd same
claim_refused_by tells suite caller item asked fault (Err why) old new same entry_is packet active held setup told among =
    claim_refused tells suite caller item asked fault why old new same entry_is packet
    (subst (λ (e : Entry). Asked suite old.terms asked e old.state) (sym entry_is)
    (active, item, record { is_held = held; setup = setup; number_is = refl; epoch_is = refl; tag_is = refl; at_is = refl; packet = packet }))
    told among

pub rotation_refused_by : (tells : Type 0) (suite : SuiteMeaning) (caller moment : ℕ) (asked : Told) (fault : OpenStore) (result : Result (Unit {0}) RotateFault) (old new : ShardState)
    → IsErrAnd result (λ why. why ≡ rotate_opening fault)
    → asked.entry ≡ entries.Rotate caller moment answers.Disk
    → ToldFor (hindrance fault) asked old new → (tells → ObjectsAmong old.state.journal.books fault)
    → Adds tells suite caller (IsRotateEntry caller moment (rotate_answer result)) old new
rotation_refused_by tells suite caller moment asked fault (Ok done) old new same entry_is told among = absurd same
rotation_refused_by tells suite caller moment asked fault (Err why) old new same entry_is told among =
    rotation_refused tells suite caller moment asked fault why old new same entry_is
    (subst (λ (e : Entry). Asked suite old.terms asked e old.state) (sym entry_is) tt)
    told among

-- ---- books on the way of the whole call

flat_map_cases : {X Y : Type 0} (f : X → List Y) (xs : List X) (y : Y) → Contains (flat_map f xs) y → (x : X) × Contains xs x × Contains (f x) y
flat_map_cases f [] y there = absurd (none_in_empty y there)
flat_map_cases f (x ∷ xs) y there =
    elim (Contains-append_cases (f x) (flat_map f xs) y there) [
      | inl here ↦ (x, Contains-head x xs, here)
      | inr later ↦ let found = flat_map_cases f xs y later in (found.0, Contains-tail x xs found.0 found.1, found.2)
    ]

-- the books of one journal are among those of another
abbrev Within : Shape → journals.Journal → journals.Journal → Type 0
Within shape inner outer = (read : Result StoredBook Objection) → Contains (unopened shape inner).books read → Contains (unopened shape outer).books read

way_within : (shape : Shape) (stages : StoredBook → List StoredBook) (inner outer : journals.Journal) → Within shape inner outer
    → (read : Result StoredBook Objection) → Contains (on_the_way shape stages inner) read → Contains (on_the_way shape stages outer) read
way_within shape stages inner outer within read there =
    elim (Contains-append_cases (unopened shape inner).books (flat_map (stages_of stages) (unopened shape inner).books) read there) [
      | inl book ↦ on_the_way-opened shape stages outer read (within read book)
      | inr stage ↦
          let found = flat_map_cases (stages_of stages) (unopened shape inner).books read stage in
          Contains-append_right (unopened shape outer).books (flat_map (stages_of stages) (unopened shape outer).books) read
          (Contains-flat_map (stages_of stages) (unopened shape outer).books found.0 read (within found.0 found.1) found.2)
    ]

made_twice : (shape : Shape) (roots : List RootRecord) → with_made shape (with_made shape roots) ≡ with_made shape roots
made_twice shape [] = refl
made_twice shape (root ∷ roots) = refl

-- a journal that was opened has one of the books, with its root made
taken_within : (shape : Shape) (old : journals.Journal) (book : StoredBook) → OpensOne shape old Opened (sound_with book) → Within shape (sound_with book) old
taken_within shape old book takes read there =
    let one_is : Ok book ≡ made_where_read shape (Ok takes.0) = first takes.2 in
    let here : Contains (unopened shape old).books (made_where_read shape (Ok takes.0)) = unopened-made shape old (Ok takes.0) takes.1 in
    elim (Contains-cons_cases (Ok book) (made_where_read shape (Ok book) ∷ []) read there) [
      | inl same ↦ subst (λ (r : Result StoredBook Objection). Contains (unopened shape old).books r) (sym one_is ∙ same) here
      | inr later ↦ elim (Contains-cons_cases (made_where_read shape (Ok book)) [] read later) [
        | inl same ↦ subst (λ (r : Result StoredBook Objection). Contains (unopened shape old).books r) (sym (again one_is) ∙ same) here
        | inr none ↦ absurd (none_in_empty read none)
      ]
    ]
  where
    first : sound_with book ≡ sound_with (made shape takes.0) → Ok book ≡ made_where_read shape (Ok takes.0)
    first same = cc

    again : Ok book ≡ made_where_read shape (Ok takes.0) → made_where_read shape (Ok book) ≡ made_where_read shape (Ok takes.0)
    again same = ap (made_where_read shape) same
        ∙ ap (λ (roots : List RootRecord). Ok (record takes.0 { roots = roots })) (made_twice shape takes.0.roots)

opening_within : (tells : Type 0) (suite : SuiteMeaning) (terms : Terms) (caller : ℕ) (old new : State) (opening : List Told) → tells
    → IsOpeningBy caller opening → Steps tells suite terms old opening new → Within terms.shape new.journal old.journal
opening_within tells suite terms caller old new opening t (inl none) steps =
    let same : new ≡ old = subst (λ (entries : List Told). Steps tells suite terms old entries new) none steps in
    subst (λ (s : State). Within terms.shape s.journal old.journal) (sym same) (λ read there. there)
opening_within tells suite terms caller old new opening t (inr one) steps =
    let step = subst (λ (entries : List Told). Steps tells suite terms old entries new) one.3 steps in
    let reopens : Reopens tells terms one.1 one.2 old step.0 = subst (λ (e : Entry). Says tells suite terms one.0 e old step.0) one.4 step.1 in
    let state : new ≡ record old { journal = sound_with reopens.book } = step.2 ∙ reopens.new_is in
    subst (λ (s : State). Within terms.shape s.journal old.journal) (sym state) (taken_within terms.shape old.journal reopens.book (reopens.opens t))

sound_within : (tells : Type 0) (suite : SuiteMeaning) (caller : ℕ) (old new : ShardState) → tells → IsSound tells suite caller old new
    → Within old.terms.shape new.state.journal old.state.journal
sound_within tells suite caller old new t sound =
    opening_within tells suite old.terms caller old.state new.state sound.adds.opening t sound.adds.by_caller
    (subst (λ (entries : List Told). Steps tells suite old.terms old.state entries new.state)
    (ap (λ (own : List Told). sound.adds.opening ++ own) sound.adds.own_is ∙ append-nil sound.adds.opening) sound.adds.steps)

-- at each moment of an opening and then of a change
pub moments_both : (tells : Type 0) (suite : SuiteMeaning) (caller : ℕ) (old mid : ShardState) (new : RackState) (stages : StoredBook → List StoredBook) → tells
    → IsSound tells suite caller old mid
    → AtEachMoment (OpensToOneOf old.terms.shape old.terms.limit (unopened old.terms.shape old.state.journal).books) old.rack mid.rack
    → AtEachMoment (OpensToOneOf old.terms.shape old.terms.limit (on_the_way old.terms.shape stages mid.state.journal)) mid.rack new
    → AtEachMoment (OpensToOneOf old.terms.shape old.terms.limit (on_the_way old.terms.shape stages old.state.journal)) old.rack new
moments_both tells suite caller old mid new stages t sound first second =
    chained (OpensToOneOf old.terms.shape old.terms.limit (on_the_way old.terms.shape stages old.state.journal)) old.rack mid.rack new
    (moments_opened old.terms stages old.state.journal old.rack mid.rack first)
    (weaker (OpensToOneOf old.terms.shape old.terms.limit (on_the_way old.terms.shape stages mid.state.journal))
    (OpensToOneOf old.terms.shape old.terms.limit (on_the_way old.terms.shape stages old.state.journal)) mid.rack new
    (λ areas covers left. way_within old.terms.shape stages mid.state.journal old.state.journal (sound_within tells suite caller old mid t sound)
    (opened old.terms.shape old.terms.limit areas left) (covers left)) second)

-- ---- a journal that was sound

pub some_sound : (store : Option StoreState) (books : List (Result StoredBook Objection)) → true ≡ is_some store → (journal_now store books).is_sound ≡ true
some_sound None books some = absurd (cc)
some_sound (Some store) books some = refl
