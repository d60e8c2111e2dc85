-- What an opening finds: the reading of each area leaves no new image, and what was read is the book.
use Rattle.std.proofs.Common.{◌≡◌, ◌≢◌, ◌⊎◌, inl, inr, ℕ, ◌+◌, ◌%◌, ◌<◌, ◌==◌, ◌||◌, Bool, true, false, if◌then◌else◌, Option, Some, None, List, [], ◌∷◌, ◌++◌, length, map, Contains, Result, Ok, Err, refl, sym, ◌∙◌, ap, subst, arith}
use Rattle.std.specs.List.{AllByRecursion, concat}
use Rattle.std.specs.Option.{option_map}
use Rattle.std.proofs.lemmas.Bool.{cases_lt, cases_eq, eq-eqb, ne_eqb, le-leb, lt-ltb, or_left, or_right}
use Rattle.mix_base.proofs.Members.{Contains-cons_cases, none_in_empty}
use Rattle.mix_base.specs.Shards.{IsShape}
use Rattle.mix_base.specs.declared.shards.Shape.{Shape}
use Rattle.replay_disk.specs.Disk.{Area, Areas, RackState, IsImage, IsAtRest, area_at, contents_of}
use Rattle.replay_disk.specs.Moments.{AtEachMoment}
use Rattle.replay_disk.proofs.Laws.{weaker, chained, started, same_moment, rests_same}
use Rattle.gate_log.proofs.Standing.{read_same}
use Rattle.gate_log.specs.Log.{EachImage, OthersStay, ReadingLeaves, ReadState, WasRead}
use Rattle.gate_log.specs.Records.{records}
use Rattle.std.specs.Result.{IfErr, result_err}
use Rattle.spent_store.specs.Books.{EpochLog, StoredBook, area_of, begun, is_used, log_in, book_of, overfull, unrecorded, amiss, other_shape, overfull_log, first_of, unless, spelled_book}
use Rattle.spent_store.specs.Changes.{made, made_where_read}
use Rattle.spent_store.specs.Found.{FoundState, IsFound, IsInArea, IfClosed, IfStands, NothingNew, Making, Rests, begins_in_two, epoch_in, in_order}
use Rattle.spent_store.specs.Joined.{cut}
use Rattle.spent_store.proofs.Cutting.{cut_records}
use Rattle.spent_store.specs.Root.{AreNear, floor_of, begun_of, is_shape, root_record, roots_in}
use Rattle.spent_store.specs.Stores.{Left, OpensFrom, IsSameOrMade, SameContents, UnusedStay, opened, as_read, book_in}
use Rattle.spent_store.specs.TagLogs.{TagLogState, LogStands, ReadTagsState, TagsWereRead, read_log, epoch_log}
use Rattle.spent_store.specs.Faults.{Refuses}
use Rattle.spent_store.specs.declared.faults.Objection.{Objection}
use Rattle.spent_store.specs.declared.faults.OpenStore.{OpenStore}
use Rattle.spent_store.specs.declared.faults.OpenStore.TheVariants as answer
use Rattle.spent_store.specs.declared.root.RootRecord.{RootRecord}
use Rattle.spent_store.proofs.BookLaws.{log_bytes-one, log_bytes-two, IsUnobjected, begun_said, book_spelled, same_answer}
use Rattle.spent_store.proofs.ChangeLaws.{other_area}
use Rattle.spent_store.specs.Kept.{IsOfStore}
use Rattle.spent_store.proofs.StoreOpening.{rest_kept}
use Rattle.spent_store.proofs.Leaving.{unused_but, unused_then}

-- ---- at every moment of a reading

pub nothing_new : (epochs : List ℕ) (areas : Areas) → NothingNew epochs areas areas
nothing_new epochs areas = record { images = λ area low image is. is; others = λ area some low unused. refl }

pub nothing_then : (epochs : List ℕ) (first mid last : Areas) → NothingNew epochs first mid → NothingNew epochs mid last → NothingNew epochs first last
nothing_then epochs first mid last before next = record {
  images = λ area low image is. before.images area low image (next.images area low image is);
  others = unused_then epochs first mid last before.others next.others;
}

nothing_at : (area : ℕ) (epochs : List ℕ) (old now : Areas) → (area ≡ 0) ⊎ (is_used area epochs ≡ true) → EachImage area (IsImage (area_at area old)) old now → NothingNew epochs old now
nothing_at area epochs old now touched each = record {
  images = λ other low image is.
      elim (cases_eq other area) [
        | inl here ↦ subst (λ (a : ℕ). IsImage (area_at a old) image) (sym here) (each.images image (subst (λ (a : ℕ). IsImage (area_at a now) image) here is))
        | inr apart ↦ subst (λ (a : Area). IsImage a image) (each.others other low apart) is
      ];
  others = unused_but area epochs old now touched each.others;
}

-- one area was read
pub nothing_read : (area : ℕ) (epochs : List ℕ) (old now : RackState) → (area ≡ 0) ⊎ (is_used area epochs ≡ true) → ReadingLeaves area old now → AtEachMoment (NothingNew epochs old.areas) old now
nothing_read area epochs old now touched reading =
    weaker (EachImage area (IsImage (area_at area old.areas)) old.areas) (NothingNew epochs old.areas) old now (λ areas each. nothing_at area epochs old.areas areas touched each) reading

-- another call after those before
pub nothing_on : (epochs : List ℕ) (first mid last : RackState) → AtEachMoment (NothingNew epochs first.areas) first mid → AtEachMoment (NothingNew epochs mid.areas) mid last → AtEachMoment (NothingNew epochs first.areas) first last
nothing_on epochs first mid last so_far next =
    chained (NothingNew epochs first.areas) first mid last so_far
    (weaker (NothingNew epochs mid.areas) (NothingNew epochs first.areas) mid last (λ areas next. nothing_then epochs first.areas mid.areas areas so_far.now next) next)

pub same_contents : (first mid last : Areas) → SameContents first mid → SameContents mid last → SameContents first last
same_contents first mid last before next = record { root = next.root ∙ before.root; one = next.one ∙ before.one; two = next.two ∙ before.two }

-- one area has what it had, and the others stayed
pub contents_at : (area : ℕ) (old now : Areas) → (area_at area now).contents ≡ (area_at area old).contents → OthersStay area old now → SameContents old now
contents_at area old now same others = record { root = at 0 (omega arith); one = at 1 (omega arith); two = at 2 (omega arith) }
  where
    at : (other : ℕ) → other < 3 → (area_at other now).contents ≡ (area_at other old).contents
    at other low =
        elim (cases_eq other area) [
          | inl here ↦ subst (λ (a : ℕ). (area_at a now).contents ≡ (area_at a old).contents) (sym here) same
          | inr apart ↦ ap (λ (a : Area). a.contents) (others other low apart)
        ]

pub same_read : (shape : Shape) (limit : ℕ) (old now : Areas) → SameContents old now → book_in now shape limit ≡ book_in old shape limit
same_read shape limit old now same = λ i. book_of (same.root i) (same.one i) (same.two i) shape limit

-- ---- the logs of two areas, in their order

-- there is an epoch in an area where one uses it
pub epoch_there : (area : ℕ) (epochs : List ℕ) (epoch : ℕ) → epoch_in area epochs ≡ Some epoch → (area_of epoch ≡ area) × (is_used area epochs ≡ true)
epoch_there area [] epoch is = absurd (cc)
epoch_there area (first ∷ epochs) epoch is =
    elim (cases_eq (area_of first) area) [
      | inl here ↦
          let found : Some first ≡ Some epoch = rw (eq-eqb (area_of first) area here) at is in
          let same : first ≡ epoch = cc in
          (sym (ap area_of same) ∙ here, or_left (area_of first == area) (is_used area epochs) (eq-eqb (area_of first) area here))
      | inr elsewhere ↦
          let later = epoch_there area epochs epoch (rw (ne_eqb (area_of first) area elsewhere) at is) in
          (later.0, or_right (area_of first == area) (is_used area epochs) later.1)
    ]

pub no_epoch : (area : ℕ) (epochs : List ℕ) → epoch_in area epochs ≡ None → is_used area epochs ≡ false
no_epoch area [] none = refl
no_epoch area (first ∷ epochs) none =
    elim (cases_eq (area_of first) area) [
      | inl here ↦ let found : Some first ≡ None = rw (eq-eqb (area_of first) area here) at none in absurd (cc)
      | inr elsewhere ↦
          let later : epoch_in area epochs ≡ None = rw (ne_eqb (area_of first) area elsewhere) at none in
          rw (ne_eqb (area_of first) area elsewhere) (no_epoch area epochs later)
    ]

-- what is against the log of an area, where one of the epochs uses it and where none does
pub log_used : (limit area : ℕ) (bytes epochs : List ℕ) → is_used area epochs ≡ true → overfull_log limit area bytes epochs ≡ overfull limit area 32 bytes
log_used limit area bytes epochs used = rw used refl

pub log_unused_there : (limit area : ℕ) (bytes epochs : List ℕ) → is_used area epochs ≡ false → overfull_log limit area bytes epochs ≡ None
log_unused_there limit area bytes epochs unused = rw unused refl

pub in_area_of : (read : ReadTagsState) (area limit epoch : ℕ) → read.epoch ≡ epoch → area_of epoch ≡ area → read.log.limit ≡ limit → IsInArea area limit (Some read)
in_area_of read area limit epoch of_epoch here may other same =
    let this : read ≡ other = cc in
    (ap (λ (r : ReadTagsState). area_of r.epoch) (sym this) ∙ ap area_of of_epoch ∙ here, ap (λ (r : ReadTagsState). r.log.limit) (sym this) ∙ may)

pub ordered_epochs : (floor : ℕ) (epochs : List ℕ) → AreNear floor epochs → in_order (begins_in_two epochs) (epoch_in 1 epochs) (epoch_in 2 epochs) ≡ epochs
ordered_epochs floor [] near = refl
ordered_epochs floor (a ∷ []) near =
    elim (cases_lt (a % 2) 1) [
      | inl even ↦
          let first : area_of a ≡ 1 = omega arith in
          rw (eq-eqb (area_of a) 1 first, ne_eqb (area_of a) 2 (λ same. omega (arith, same, first))) refl
      | inr odd ↦
          let second : area_of a ≡ 2 = omega arith in
          rw (ne_eqb (area_of a) 1 (λ same. omega (arith, same, second)), eq-eqb (area_of a) 2 second) refl
    ]
ordered_epochs floor (a ∷ b ∷ []) near =
    let apart : area_of b ≡ area_of (a + 1) = other_area floor a b near.0 near.1 near.2 in
    elim (cases_lt (a % 2) 1) [
      | inl even ↦
          let first : area_of a ≡ 1 = omega arith in
          let second : area_of b ≡ 2 = omega (arith, apart) in
          rw (
            eq-eqb (area_of a) 1 first,
            ne_eqb (area_of a) 2 (λ same. omega (arith, same, first)),
            eq-eqb (area_of b) 2 second,
          ) refl
      | inr odd ↦
          let first : area_of b ≡ 1 = omega (arith, apart) in
          let second : area_of a ≡ 2 = omega arith in
          rw (
            ne_eqb (area_of a) 1 (λ same. omega (arith, same, second)),
            eq-eqb (area_of a) 2 second,
            eq-eqb (area_of b) 1 first,
          ) refl
    ]
ordered_epochs floor (a ∷ b ∷ c ∷ others) near = absurd near

pub map_ordered : {X Y : Type 0} (f : X → Y) (second_first : Bool) (one two : Option X) → map f (in_order second_first one two) ≡ in_order second_first (option_map f one) (option_map f two)
map_ordered f true None None = refl
map_ordered f true None (Some y) = refl
map_ordered f true (Some x) None = refl
map_ordered f true (Some x) (Some y) = refl
map_ordered f false None None = refl
map_ordered f false None (Some y) = refl
map_ordered f false (Some x) None = refl
map_ordered f false (Some x) (Some y) = refl

pub all_ordered : {X : Type 0} (P : X → Type 0) (second_first : Bool) (one two : Option X) → ((x : X) → one ≡ Some x → P x) → ((x : X) → two ≡ Some x → P x) → AllByRecursion P (in_order second_first one two)
all_ordered P true None None first second = tt
all_ordered P true None (Some y) first second = (second y refl, tt)
all_ordered P true (Some x) None first second = (first x refl, tt)
all_ordered P true (Some x) (Some y) first second = (second y refl, (first x refl, tt))
all_ordered P false None None first second = tt
all_ordered P false None (Some y) first second = (second y refl, tt)
all_ordered P false (Some x) None first second = (first x refl, tt)
all_ordered P false (Some x) (Some y) first second = (first x refl, (second y refl, tt))

-- each of the two uses its area
pub ordered_used : (area : ℕ) (second_first : Bool) (one two : Option ReadTagsState) (read : ReadTagsState) → (one ≡ Some read) ⊎ (two ≡ Some read) → area_of read.epoch ≡ area
    → is_used area (map (λ (log : ReadTagsState). log.epoch) (in_order second_first one two)) ≡ true
ordered_used area second_first one two read among here = split second_first one two among
  where
    is_there : (other : ReadTagsState) → Some other ≡ Some read → (area_of other.epoch == area) ≡ true
    is_there other same = let is : other ≡ read = cc in eq-eqb (area_of other.epoch) area (ap (λ (r : ReadTagsState). area_of r.epoch) is ∙ here)

    split : (order : Bool) (first second : Option ReadTagsState) → (first ≡ Some read) ⊎ (second ≡ Some read) → is_used area (map (λ (log : ReadTagsState). log.epoch) (in_order order first second)) ≡ true
    split order None None (inl is) = absurd (cc)
    split order None None (inr is) = absurd (cc)
    split order None (Some y) (inl is) = absurd (cc)
    split true None (Some y) (inr is) = or_left (area_of y.epoch == area) false (is_there y is)
    split false None (Some y) (inr is) = or_left (area_of y.epoch == area) false (is_there y is)
    split true (Some x) None (inl is) = or_left (area_of x.epoch == area) false (is_there x is)
    split false (Some x) None (inl is) = or_left (area_of x.epoch == area) false (is_there x is)
    split order (Some x) None (inr is) = absurd (cc)
    split true (Some x) (Some y) (inl is) = or_right (area_of y.epoch == area) (area_of x.epoch == area || false) (or_left (area_of x.epoch == area) false (is_there x is))
    split false (Some x) (Some y) (inl is) = or_left (area_of x.epoch == area) (area_of y.epoch == area || false) (is_there x is)
    split true (Some x) (Some y) (inr is) = or_left (area_of y.epoch == area) (area_of x.epoch == area || false) (is_there y is)
    split false (Some x) (Some y) (inr is) = or_right (area_of x.epoch == area) (area_of y.epoch == area || false) (or_left (area_of y.epoch == area) false (is_there y is))

-- what uses area 1 is the first of the two, and what uses area 2 the second
first_used : (second_first : Bool) (one two : Option ReadTagsState) → ((read : ReadTagsState) → two ≡ Some read → area_of read.epoch ≡ 2)
    → is_used 1 (map (λ (log : ReadTagsState). log.epoch) (in_order second_first one two)) ≡ true → (read : ReadTagsState) × (one ≡ Some read)
first_used order (Some x) two apart used = (x, refl)
first_used true None None apart used = absurd (cc)
first_used false None None apart used = absurd (cc)
first_used true None (Some y) apart used = let never : false ≡ true = rw (ne_eqb (area_of y.epoch) 1 (λ same. omega (arith, same, apart y refl))) at used in absurd (cc)
first_used false None (Some y) apart used = let never : false ≡ true = rw (ne_eqb (area_of y.epoch) 1 (λ same. omega (arith, same, apart y refl))) at used in absurd (cc)

second_used : (second_first : Bool) (one two : Option ReadTagsState) → ((read : ReadTagsState) → one ≡ Some read → area_of read.epoch ≡ 1)
    → is_used 2 (map (λ (log : ReadTagsState). log.epoch) (in_order second_first one two)) ≡ true → (read : ReadTagsState) × (two ≡ Some read)
second_used order one (Some y) apart used = (y, refl)
second_used true None None apart used = absurd (cc)
second_used false None None apart used = absurd (cc)
second_used true (Some x) None apart used = let never : false ≡ true = rw (ne_eqb (area_of x.epoch) 2 (λ same. omega (arith, same, apart x refl))) at used in absurd (cc)
second_used false (Some x) None apart used = let never : false ≡ true = rw (ne_eqb (area_of x.epoch) 2 (λ same. omega (arith, same, apart x refl))) at used in absurd (cc)

-- ---- the epochs and the logs of what was found

pub found_epochs : (floor : ℕ) (epochs : List ℕ) (one two : Option ReadTagsState) → AreNear floor epochs → option_map (λ (r : ReadTagsState). r.epoch) one ≡ epoch_in 1 epochs → option_map (λ (r : ReadTagsState). r.epoch) two ≡ epoch_in 2 epochs
    → map (λ (r : ReadTagsState). r.epoch) (in_order (begins_in_two epochs) one two) ≡ epochs
found_epochs floor epochs one two near is_one is_two =
    map_ordered (λ (r : ReadTagsState). r.epoch) (begins_in_two epochs) one two ∙ (λ i. in_order (begins_in_two epochs) (is_one i) (is_two i)) ∙ ordered_epochs floor epochs near

-- the logs are those of the begun epochs, by the bytes of their areas
pub found_logs : (floor : ℕ) (first second epochs : List ℕ) (one two : Option ReadTagsState) → AreNear floor epochs → option_map (λ (r : ReadTagsState). r.epoch) one ≡ epoch_in 1 epochs → option_map (λ (r : ReadTagsState). r.epoch) two ≡ epoch_in 2 epochs
    → ((read : ReadTagsState) → one ≡ Some read → (area_of read.epoch ≡ 1) × (records 32 first ≡ read.tags)) → ((read : ReadTagsState) → two ≡ Some read → (area_of read.epoch ≡ 2) × (records 32 second ≡ read.tags))
    → map read_log (in_order (begins_in_two epochs) one two) ≡ map (log_in first second) epochs
found_logs floor first second epochs one two near is_one is_two tags_one tags_two =
    map_ordered read_log (begins_in_two epochs) one two
    ∙ (λ i. in_order (begins_in_two epochs) (mapped_one one tags_one i) (mapped_two two tags_two i))
    ∙ sym (map_ordered by_bytes (begins_in_two epochs) one two)
    ∙ by_epoch (in_order (begins_in_two epochs) one two)
    ∙ ap (λ (e : List ℕ). map (log_in first second) e) (found_epochs floor epochs one two near is_one is_two)
  where
    by_bytes : ReadTagsState → EpochLog
    by_bytes read = log_in first second read.epoch

    mapped_one : (found : Option ReadTagsState) → ((read : ReadTagsState) → found ≡ Some read → (area_of read.epoch ≡ 1) × (records 32 first ≡ read.tags)) → option_map read_log found ≡ option_map by_bytes found
    mapped_one None tags = refl
    mapped_one (Some read) tags = λ i. Some (record { epoch = read.epoch; tags = (sym (tags read refl).1 ∙ ap (λ (bytes : List ℕ). records 32 bytes) (sym (log_bytes-one first second read.epoch (tags read refl).0))) i })

    mapped_two : (found : Option ReadTagsState) → ((read : ReadTagsState) → found ≡ Some read → (area_of read.epoch ≡ 2) × (records 32 second ≡ read.tags)) → option_map read_log found ≡ option_map by_bytes found
    mapped_two None tags = refl
    mapped_two (Some read) tags = λ i. Some (record { epoch = read.epoch; tags = (sym (tags read refl).1 ∙ ap (λ (bytes : List ℕ). records 32 bytes) (sym (log_bytes-two first second read.epoch (tags read refl).0))) i })

    by_epoch : (found : List ReadTagsState) → map by_bytes found ≡ map (log_in first second) (map (λ (r : ReadTagsState). r.epoch) found)
    by_epoch [] = refl
    by_epoch (read ∷ rest) = ap (λ (logs : List EpochLog). log_in first second read.epoch ∷ logs) (by_epoch rest)

pub read_epochs : (found : List ReadTagsState) → map (λ (log : EpochLog). log.epoch) (map read_log found) ≡ map (λ (r : ReadTagsState). r.epoch) found
read_epochs [] = refl
read_epochs (read ∷ rest) = ap (λ (epochs : List ℕ). read.epoch ∷ epochs) (read_epochs rest)

-- ---- the areas of what was found are at rest

module _ (found : FoundState) (second_first : Bool) (logs : found.book.logs ≡ map read_log (in_order second_first found.one found.two)) (in_one : IsInArea 1 found.limit found.one) (in_two : IsInArea 2 found.limit found.two) where
  epochs_are : begun found.book ≡ map (λ (r : ReadTagsState). r.epoch) (in_order second_first found.one found.two)
  epochs_are = ap (λ (some : List EpochLog). map (λ (log : EpochLog). log.epoch) some) logs ∙ read_epochs (in_order second_first found.one found.two)

  pub found_used : (area : ℕ) (read : ReadTagsState) → (found.one ≡ Some read) ⊎ (found.two ≡ Some read) → area_of read.epoch ≡ area → is_used area (begun found.book) ≡ true
  found_used area read among here = ap (λ (epochs : List ℕ). is_used area epochs) epochs_are ∙ ordered_used area second_first found.one found.two read among here

  pub found_rests : (state : RackState) → IsFound found state → found.root.area ≡ 0 → Rests found.shape found.limit found.book state.areas
  found_rests state is root = record {
    root = subst (λ (area : ℕ). IsAtRest state.areas area) root is.root.at_rest;
    one = λ used.
        let there = first_used second_first found.one found.two (λ read same. (in_two read same).0) (sym (ap (λ (epochs : List ℕ). is_used 1 epochs) epochs_are) ∙ used) in
        subst (λ (area : ℕ). IsAtRest state.areas area) (in_one there.0 there.1).0 (is.one there.0 there.1).rest;
    two = λ used.
        let there = second_used second_first found.one found.two (λ read same. (in_one read same).0) (sym (ap (λ (epochs : List ℕ). is_used 2 epochs) epochs_are) ∙ used) in
        subst (λ (area : ℕ). IsAtRest state.areas area) (in_two there.0 there.1).0 (is.two there.0 there.1).rest;
    reads = is.reads;
  }

-- ---- what is left, by what was there before

pub from_nothing : (shape : Shape) (limit : ℕ) (epochs : List ℕ) (old now : Areas) → NothingNew epochs old now → OpensFrom shape limit old now
from_nothing shape limit epochs old now nothing left = (
  record {
    root = left.root;
    one = left.one;
    two = left.two;
    is_root = nothing.images 0 (omega arith) left.root left.is_root;
    is_one = nothing.images 1 (omega arith) left.one left.is_one;
    is_two = nothing.images 2 (omega arith) left.two left.is_two;
  },
  inl refl,
)

picked : (P : List ℕ → Type 0) (used : Bool) (read left : List ℕ) → (used ≡ true → P read) → (used ≡ false → P left) → P (if used then read else left)
picked P true read left here there = here refl
picked P false read left here there = there refl

picked_read : (used : Bool) (read left : List ℕ) → used ≡ true → records 32 (if used then read else left) ≡ records 32 read
picked_read true read left is = refl
picked_read false read left is = absurd (cc)

one_of_two : (a b : StoredBook) (read : Result StoredBook Objection) → Contains (as_read (a ∷ b ∷ [])) read → (read ≡ Ok a) ⊎ (read ≡ Ok b)
one_of_two a b read there =
    elim (Contains-cons_cases (Ok a) (Ok b ∷ []) read there) [
      | inl first ↦ inl (sym first)
      | inr later ↦
          elim (Contains-cons_cases (Ok b) [] read later) [
            | inl second ↦ inr (sym second)
            | inr never ↦ absurd (none_in_empty read never)
          ]
    ]

-- a read gives the book, or it with its root made
pub read_made : (shape : Shape) (book : StoredBook) (old now : Result StoredBook Objection) → old ≡ Ok book → Contains (as_read (book ∷ made shape book ∷ [])) now → IsSameOrMade shape old now
read_made shape book old now was there =
    elim (one_of_two book (made shape book) now there) [
      | inl same ↦ inl (same ∙ sym was)
      | inr is_made ↦ inr (is_made ∙ ap (made_where_read shape) (sym was))
    ]

module _ (shape : Shape) (limit : ℕ) (book : StoredBook) (mid : Areas) (rests : Rests shape limit book mid) (now : Areas) (others : UnusedStay (begun book) mid now) (left : Left now) where
  before : Left mid
  before = record {
    root = mid.root.contents;
    one = if is_used 1 (begun book) then mid.one.contents else left.one;
    two = if is_used 2 (begun book) then mid.two.contents else left.two;
    is_root = rests.root.image;
    is_one = picked (λ (bytes : List ℕ). IsImage mid.one bytes) (is_used 1 (begun book)) mid.one.contents left.one (λ used. (rests.one used).image)
        (λ unused. subst (λ (area : Area). IsImage area left.one) (others 1 (omega arith) (omega arith) unused) left.is_one);
    is_two = picked (λ (bytes : List ℕ). IsImage mid.two bytes) (is_used 2 (begun book)) mid.two.contents left.two (λ used. (rests.two used).image)
        (λ unused. subst (λ (area : Area). IsImage area left.two) (others 2 (omega arith) (omega arith) unused) left.is_two);
  }

  was_book : book_of before.root before.one before.two shape limit ≡ Ok book
  unfolding before
  was_book =
      let epochs : begun book ≡ begun_of (roots_in mid.root.contents) = begun_said mid.root.contents mid.one.contents mid.two.contents shape limit book rests.reads in
      same_answer mid.root.contents mid.one.contents mid.two.contents mid.root.contents before.one before.two shape limit refl (λ none. refl)
      (λ used. picked_read (is_used 1 (begun book)) mid.one.contents left.one (ap (λ (e : List ℕ). is_used 1 e) epochs ∙ used))
      (λ used. picked_read (is_used 2 (begun book)) mid.two.contents left.two (ap (λ (e : List ℕ). is_used 2 e) epochs ∙ used))
      ∙ rests.reads

pub from_making : (shape : Shape) (limit : ℕ) (book : StoredBook) (epochs : List ℕ) (old mid now : Areas) → NothingNew epochs old mid → Rests shape limit book mid → Making shape limit book mid now → OpensFrom shape limit old now
from_making shape limit book epochs old mid now nothing rests making left =
    let there : Left mid = before shape limit book mid rests now making.others left in
    let was : book_of there.root there.one there.two shape limit ≡ Ok book = was_book shape limit book mid rests now making.others left in (
      record {
        root = there.root;
        one = there.one;
        two = there.two;
        is_root = nothing.images 0 (omega arith) there.root there.is_root;
        is_one = nothing.images 1 (omega arith) there.one there.is_one;
        is_two = nothing.images 2 (omega arith) there.two there.is_two;
      },
      read_made shape book (book_of there.root there.one there.two shape limit) (opened shape limit now left) was (making.opens left),
    )

-- ---- the book of what was read

pub found_book : (root one two : List ℕ) (shape : Shape) (limit floor : ℕ) (epochs : List ℕ) (roots : List RootRecord) (logs : List EpochLog) → roots ≡ roots_in root → floor ≡ floor_of roots → epochs ≡ begun_of roots
    → overfull limit 0 9 root ≡ None → unrecorded (length root) roots ≡ None → amiss roots ≡ None → other_shape shape roots ≡ None → overfull_log limit 1 one epochs ≡ None → overfull_log limit 2 two epochs ≡ None
    → logs ≡ map (log_in one two) epochs → book_of root one two shape limit ≡ Ok (record { floor = floor; logs = logs; roots = roots })
found_book root one two shape limit floor epochs roots logs is_roots is_floor is_epochs counted recorded in_order shaped first_log second_log are_logs =
    let epochs_there : epochs ≡ begun_of (roots_in root) = is_epochs ∙ ap begun_of is_roots in
    let none : IsUnobjected root one two shape limit
    = record {
      counted = counted;
      recorded = ap (λ (found : List RootRecord). unrecorded (length root) found) (sym is_roots) ∙ recorded;
      in_order = ap (λ (found : List RootRecord). amiss found) (sym is_roots) ∙ in_order;
      shaped = ap (λ (found : List RootRecord). other_shape shape found) (sym is_roots) ∙ shaped;
      first_log = ap (λ (found : List ℕ). overfull_log limit 1 one found) (sym epochs_there) ∙ first_log;
      second_log = ap (λ (found : List ℕ). overfull_log limit 2 two found) (sym epochs_there) ∙ second_log;
    } in
    let floor_there : floor_of (roots_in root) ≡ floor = ap (λ (found : List RootRecord). floor_of found) (sym is_roots) ∙ sym is_floor in
    let logs_there : map (log_in one two) (begun_of (roots_in root)) ≡ logs = ap (λ (found : List ℕ). map (log_in one two) found) (sym epochs_there) ∙ sym are_logs in
    book_spelled root one two shape limit none ∙ (λ i. Ok (record { floor = floor_there i; logs = logs_there i; roots = sym is_roots i }))

-- ---- what is against it

-- the first of some objections is the first of these and others
pub refuses_first : (fault : OpenStore) (front others : List (Option Objection)) (book : StoredBook) → Refuses fault (first_of front) → Refuses fault (result_err (unless (first_of (front ++ others)) book))
refuses_first answer.Failed front others book refused = tt
refuses_first answer.Memory front others book refused = tt
refuses_first (answer.Foreign area at) [] others book refused = absurd (cc)
refuses_first (answer.Foreign area at) (None ∷ front) others book refused = refuses_first (answer.Foreign area at) front others book refused
refuses_first (answer.Foreign area at) (Some objection ∷ front) others book refused = refused
refuses_first (answer.OtherShape stored) [] others book refused = absurd (cc)
refuses_first (answer.OtherShape stored) (None ∷ front) others book refused = refuses_first (answer.OtherShape stored) front others book refused
refuses_first (answer.OtherShape stored) (Some objection ∷ front) others book refused = refused

-- where nothing else is against it before
pub refuses_next : (fault : OpenStore) (first : Option Objection) (others : List (Option Objection)) (book : StoredBook) → first ≡ None → Refuses fault (result_err (unless (first_of others) book))
    → Refuses fault (result_err (unless (first_of (first ∷ others)) book))
refuses_next fault first others book none refused = subst (λ (o : Option Objection). Refuses fault (result_err (unless (first_of (o ∷ others)) book))) (sym none) refused

-- of the answer of a call
pub if_refuses_one : {T : Type 0} (result : Result T OpenStore) (objection : Option Objection) (others : List (Option Objection)) (book : StoredBook) → IfErr result (λ fault. Refuses fault objection)
    → IfErr result (λ fault. Refuses fault (result_err (unless (first_of (objection ∷ others)) book)))
if_refuses_one (Ok given) objection others book refused = refused
if_refuses_one (Err fault) objection others book refused = refuses_first fault (objection ∷ []) others book (as_first fault objection refused)
  where
    as_first : (f : OpenStore) (o : Option Objection) → Refuses f o → Refuses f (first_of (o ∷ []))
    as_first f None refuses = refuses
    as_first f (Some against) refuses = refuses

pub if_refuses_first : {T : Type 0} (result : Result T OpenStore) (front others : List (Option Objection)) (book : StoredBook) → IfErr result (λ fault. Refuses fault (first_of front))
    → IfErr result (λ fault. Refuses fault (result_err (unless (first_of (front ++ others)) book)))
if_refuses_first (Ok given) front others book refused = refused
if_refuses_first (Err fault) front others book refused = refuses_first fault front others book refused

pub if_refuses_next : {T : Type 0} (result : Result T OpenStore) (first : Option Objection) (others : List (Option Objection)) (book : StoredBook) → first ≡ None → IfErr result (λ fault. Refuses fault (result_err (unless (first_of others) book)))
    → IfErr result (λ fault. Refuses fault (result_err (unless (first_of (first ∷ others)) book)))
if_refuses_next (Ok given) first others book none refused = refused
if_refuses_next (Err fault) first others book none refused = refuses_next fault first others book none refused

-- ---- a store is read: `s1` once its root was, `s2` once that was judged, `s3` and `s4` once the logs were

-- the rack is as a log was read while its area stays
pub tags_same : (read : ReadTagsState) (old new : RackState) → area_at (area_of read.epoch) new.areas ≡ area_at (area_of read.epoch) old.areas → TagsWereRead read old → TagsWereRead read new
tags_same read old new same was = record {
  log = read_same read.log old new (subst (λ (area : ℕ). area_at area new.areas ≡ area_at area old.areas) (sym was.area) same) was.log;
  area = was.area;
  rest = rests_same (area_of read.epoch) old.areas new.areas same was.rest;
  tags = ap (λ (area : Area). records 32 area.contents) same ∙ was.tags;
}

module _ (epochs : List ℕ) (s0 sized s1 : RackState) (areas : sized.areas ≡ s0.areas) (past : sized.past ≡ s0.past) where
  pub sized_moments : AtEachMoment (NothingNew epochs s0.areas) s0 sized
  sized_moments = same_moment (NothingNew epochs s0.areas) s0 s0 sized (started (NothingNew epochs s0.areas) s0 (nothing_new epochs s0.areas)) areas past

  pub sized_contents : SameContents s0.areas sized.areas
  sized_contents = subst (λ (a : Areas). SameContents s0.areas a) (sym areas) (record { root = refl; one = refl; two = refl })

  module _ (reading : ReadingLeaves 0 sized s1) (kept : contents_of 0 s1 ≡ contents_of 0 sized) where
    pub root_moments : AtEachMoment (NothingNew epochs s0.areas) s0 s1
    root_moments = nothing_on epochs s0 sized s1 sized_moments (nothing_read 0 epochs sized s1 (inl refl) reading)

    pub root_contents : SameContents s0.areas s1.areas
    root_contents = same_contents s0.areas sized.areas s1.areas sized_contents (contents_at 0 sized.areas s1.areas kept reading.now.others)

    module _ (s2 : RackState) (one : AtEachMoment (NothingNew epochs s1.areas) s1 s2) (one_kept : SameContents s1.areas s2.areas) where
      pub one_moments : AtEachMoment (NothingNew epochs s0.areas) s0 s2
      one_moments = nothing_on epochs s0 s1 s2 root_moments one

      pub one_contents : SameContents s0.areas s2.areas
      one_contents = same_contents s0.areas s1.areas s2.areas root_contents one_kept

      module _ (s3 : RackState) (two : AtEachMoment (NothingNew epochs s2.areas) s2 s3) (two_kept : SameContents s2.areas s3.areas) where
        pub two_moments : AtEachMoment (NothingNew epochs s0.areas) s0 s3
        two_moments = nothing_on epochs s0 s2 s3 one_moments two

        pub two_contents : SameContents s0.areas s3.areas
        two_contents = same_contents s0.areas s2.areas s3.areas one_contents two_kept

        module _ (s4 : RackState) (areas_last : s4.areas ≡ s3.areas) (past_last : s4.past ≡ s3.past) where
          pub room_moments : AtEachMoment (NothingNew epochs s0.areas) s0 s4
          room_moments = same_moment (NothingNew epochs s0.areas) s0 s3 s4 two_moments areas_last past_last

          pub room_contents : SameContents s0.areas s4.areas
          room_contents = subst (λ (a : Areas). SameContents s0.areas a) (sym areas_last) two_contents

-- ---- a reading, and then the writes

module _ (shape : Shape) (limit : ℕ) (book : StoredBook) (epochs : List ℕ) (s0 s1 s2 : RackState) (reading : AtEachMoment (NothingNew epochs s0.areas) s0 s1) (rests : Rests shape limit book s1.areas)
    (writes : AtEachMoment (Making shape limit book s1.areas) s1 s2) where
  pub opens_all : AtEachMoment (OpensFrom shape limit s0.areas) s0 s2
  opens_all =
      chained (OpensFrom shape limit s0.areas) s0 s1 s2
      (weaker (NothingNew epochs s0.areas) (OpensFrom shape limit s0.areas) s0 s1 (λ now nothing. from_nothing shape limit epochs s0.areas now nothing) reading)
      (weaker (Making shape limit book s1.areas) (OpensFrom shape limit s0.areas) s1 s2 (λ now making. from_making shape limit book epochs s0.areas s1.areas now reading.now rests making) writes)

  pub unused_all : begun book ≡ epochs → AtEachMoment (UnusedStay epochs s0.areas) s0 s2
  unused_all are =
      chained (UnusedStay epochs s0.areas) s0 s1 s2
      (weaker (NothingNew epochs s0.areas) (UnusedStay epochs s0.areas) s0 s1 (λ now nothing. nothing.others) reading)
      (weaker (Making shape limit book s1.areas) (UnusedStay epochs s0.areas) s1 s2
      (λ now making. unused_then epochs s0.areas s1.areas now reading.now.others (subst (λ (e : List ℕ). UnusedStay e s1.areas now) are making.others)) writes)

-- what holds in any case holds of a failure
pub if_any : {T E P : Type 0} (result : Result T E) → P → IfErr result (λ _. P)
if_any (Ok given) there = tt
if_any (Err fault) there = there

pub if_other : {T P : Type 0} (result : Result T OpenStore) → P → IfErr result (λ fault. fault ≢ answer.Failed → P)
if_other (Ok given) there = tt
if_other (Err fault) there = λ _. there

-- by the asked shape and limit
pub as_asked : (P : Shape → ℕ → Type 0) (shape shape' : Shape) (limit limit' : ℕ) → shape ≡ shape' → limit ≡ limit' → P shape limit → P shape' limit'
as_asked P shape shape' limit limit' same_shape same_limit there = subst (λ (l : ℕ). P shape' l) same_limit (subst (λ (s : Shape). P s limit) same_shape there)

-- the records that were read
pub read_roots_are : (bytes : List ℕ) (state : RackState) (log : ReadState) (roots : List RootRecord) (joined : List ℕ) → contents_of 0 state ≡ bytes → log.area ≡ 0 → log.size ≡ 9 → WasRead log state → joined ≡ log.records
    → roots ≡ map root_record (cut 9 joined) → roots ≡ roots_in bytes
read_roots_are bytes state log roots joined kept area size was joined_are are =
    let there : log.records ≡ concat (records 9 (contents_of 0 state))
    = subst (λ (a : ℕ). log.records ≡ concat (records 9 (contents_of a state))) area (subst (λ (n : ℕ). log.records ≡ concat (records n (contents_of log.area state))) size was.joined) in
    are ∙ ap (λ (found : List (List ℕ)). map root_record found) (cut_records 9 (contents_of 0 state) joined (omega arith) (joined_are ∙ there)) ∙ ap (λ (b : List ℕ). roots_in b) kept

-- ---- what is against the bytes of a rack

module _ {T : Type 0} (result : Result T OpenStore) (root one two : List ℕ) (shape : Shape) (limit : ℕ) where
  abbrev Refused : Type 0
  Refused = IfErr result (λ fault. Refuses fault (result_err (book_of root one two shape limit)))

  abbrev logs_against : List (Option Objection)
  logs_against = overfull_log limit 1 one (begun_of (roots_in root)) ∷ overfull_log limit 2 two (begun_of (roots_in root)) ∷ []

  abbrev root_against : List (Option Objection)
  root_against = unrecorded (length root) (roots_in root) ∷ amiss (roots_in root) ∷ other_shape shape (roots_in root) ∷ []

  pub refused_root : IfErr result (λ fault. Refuses fault (overfull limit 0 9 root)) → Refused
  refused_root refused = if_refuses_one result (overfull limit 0 9 root) (root_against ++ logs_against) (spelled_book root one two) refused

  module _ (counted : overfull limit 0 9 root ≡ None) (roots : List RootRecord) (are : roots ≡ roots_in root) where
    pub refused_judged : IfErr result (λ fault. Refuses fault (first_of (unrecorded (length root) roots ∷ amiss roots ∷ other_shape shape roots ∷ []))) → Refused
    refused_judged refused =
        if_refuses_next result (overfull limit 0 9 root) (root_against ++ logs_against) (spelled_book root one two) counted
        (if_refuses_first result root_against logs_against (spelled_book root one two)
        (subst (λ (found : List RootRecord). IfErr result (λ fault. Refuses fault (first_of (unrecorded (length root) found ∷ amiss found ∷ other_shape shape found ∷ [])))) are refused))

    module _ (recorded : unrecorded (length root) roots ≡ None) (in_order : amiss roots ≡ None) (shaped : other_shape shape roots ≡ None) (epochs : List ℕ) (begun_are : epochs ≡ begun_of (roots_in root)) where
      behind_root : IfErr result (λ fault. Refuses fault (result_err (unless (first_of logs_against) (spelled_book root one two)))) → Refused
      behind_root refused =
          if_refuses_next result (overfull limit 0 9 root) (root_against ++ logs_against) (spelled_book root one two) counted
          (if_refuses_next result (unrecorded (length root) (roots_in root)) (amiss (roots_in root) ∷ other_shape shape (roots_in root) ∷ logs_against) (spelled_book root one two)
          (ap (λ (found : List RootRecord). unrecorded (length root) found) (sym are) ∙ recorded)
          (if_refuses_next result (amiss (roots_in root)) (other_shape shape (roots_in root) ∷ logs_against) (spelled_book root one two) (ap (λ (found : List RootRecord). amiss found) (sym are) ∙ in_order)
          (if_refuses_next result (other_shape shape (roots_in root)) logs_against (spelled_book root one two) (ap (λ (found : List RootRecord). other_shape shape found) (sym are) ∙ shaped) refused)))

      pub refused_one : IfErr result (λ fault. Refuses fault (overfull_log limit 1 one epochs)) → Refused
      refused_one refused =
          behind_root (if_refuses_one result (overfull_log limit 1 one (begun_of (roots_in root))) (overfull_log limit 2 two (begun_of (roots_in root)) ∷ []) (spelled_book root one two)
          (subst (λ (e : List ℕ). IfErr result (λ fault. Refuses fault (overfull_log limit 1 one e))) begun_are refused))

      pub refused_two : overfull_log limit 1 one epochs ≡ None → IfErr result (λ fault. Refuses fault (overfull_log limit 2 two epochs)) → Refused
      refused_two none refused =
          behind_root
          (if_refuses_next result (overfull_log limit 1 one (begun_of (roots_in root))) (overfull_log limit 2 two (begun_of (roots_in root)) ∷ []) (spelled_book root one two)
          (ap (λ (e : List ℕ). overfull_log limit 1 one e) (sym begun_are) ∙ none)
          (if_refuses_one result (overfull_log limit 2 two (begun_of (roots_in root))) [] (spelled_book root one two)
          (subst (λ (e : List ℕ). IfErr result (λ fault. Refuses fault (overfull_log limit 2 two e))) begun_are refused)))

-- ---- the logs that were closed are those that were read

pub shape_good : (shape : Shape) → IsShape shape → is_shape shape ≡ true
shape_good shape good = rw (le-leb 1 shape.shards good.some, le-leb shape.shards 16 good.most, lt-ltb shape.index shape.shards good.index) refl

pub rest_of : (read : Option ReadTagsState) (closed : Option TagLogState) (areas : Areas) → option_map epoch_log closed ≡ option_map read_log read → IfStands closed areas
    → (one : ReadTagsState) → read ≡ Some one → IsAtRest areas (area_of one.epoch)
rest_of None closed areas same stand one is = absurd (cc)
rest_of (Some read) None areas same stand one is = absurd (cc)
rest_of (Some read) (Some log) areas same stand one is =
    let logs : epoch_log log ≡ read_log read = cc in
    let this : read ≡ one = cc in
    subst (λ (e : ℕ). IsAtRest areas (area_of e)) (ap (λ (l : EpochLog). l.epoch) logs ∙ ap (λ (r : ReadTagsState). r.epoch) this) (stand log refl).rest.rest

pub epoch_of_closed : (read : Option ReadTagsState) (closed : Option TagLogState) (area limit : ℕ) → option_map epoch_log closed ≡ option_map read_log read → IsInArea area limit read → (log : TagLogState) → closed ≡ Some log → area_of log.epoch ≡ area
epoch_of_closed read None area limit same in_area log is = absurd (cc)
epoch_of_closed None (Some closed) area limit same in_area log is = absurd (cc)
epoch_of_closed (Some read) (Some closed) area limit same in_area log is =
    let logs : epoch_log closed ≡ read_log read = cc in
    let this : closed ≡ log = cc in
    ap (λ (l : TagLogState). area_of l.epoch) (sym this) ∙ ap (λ (l : EpochLog). area_of l.epoch) logs ∙ (in_area read refl).0

pub log_kept : (log : TagLogState) (old new : Areas) → area_at (area_of log.epoch) new ≡ area_at (area_of log.epoch) old → LogStands log old → LogStands log new
log_kept log old new same stood = record { rest = rest_kept 32 (area_of log.epoch) old new same stood.rest; read = ap (λ (area : Area). records 32 area.contents) same ∙ stood.read }

-- in their order
pub closed_logs : (second_first : Bool) (one two : Option TagLogState) (read_one read_two : Option ReadTagsState) → option_map epoch_log one ≡ option_map read_log read_one → option_map epoch_log two ≡ option_map read_log read_two
    → map epoch_log (in_order second_first one two) ≡ map read_log (in_order second_first read_one read_two)
closed_logs second_first one two read_one read_two same_one same_two =
    map_ordered epoch_log second_first one two ∙ (λ i. in_order second_first (same_one i) (same_two i)) ∙ sym (map_ordered read_log second_first read_one read_two)

pub closed_of_store : (limit : ℕ) (found : Option TagLogState) → IfClosed limit found → (log : TagLogState) → found ≡ Some log → IsOfStore limit true false log
closed_of_store limit found closed log is = record { same_limit = (closed log is).same_limit; is_sound = λ _. (closed log is).is_sound; room = λ never. absurd (cc) }
