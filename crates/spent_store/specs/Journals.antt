-- The journal: what a store stands for between two calls, and what its calls make of it.
use Rattle.std.specs.Prelude.{◌≡◌, ℕ, ◌==◌, ◌&&◌, ◌||◌, nat_le, nat_lt, Bool, true, false, List, [], ◌∷◌, ◌++◌, length, map, filter, Contains, MatchBool, Option, Some, None, Result, Ok, Err, if◌then◌else◌}
use Rattle.mix_base.specs.declared.shards.Shape.{Shape}
use Rattle.spent_store.specs.Books.{StoredBook, pairs, is_spent}
use Rattle.spent_store.specs.Changes.{raised, begun_with, claimed, claim_stages, retirement_stages, made, made_where_read}
use Rattle.spent_store.specs.declared.faults.Objection.{Objection}
use Rattle.spent_store.specs.declared.faults.ClaimFault.{ClaimFault}
use Rattle.spent_store.specs.declared.faults.ClaimFault.TheVariants as claim
use Rattle.spent_store.specs.declared.faults.RetireFault.{RetireFault}
use Rattle.spent_store.specs.declared.faults.RetireFault.TheVariants as retire

-- sound with its one book, or unsound with all that its rack may open to
pub record Journal : Type 0 where
  pub is_sound : Bool
  pub books : List (Result StoredBook Objection)

abbrev pub sound_with : StoredBook → Journal
sound_with book = record { is_sound = true; books = Ok book ∷ [] }

abbrev pub unsound_with : List (Result StoredBook Objection) → Journal
unsound_with books = record { is_sound = false; books = books }

-- cut off in a change: any of its stages may stand
abbrev pub cut_off : List StoredBook → Journal
cut_off stages = unsound_with (map (λ book. Ok book) stages)

-- ---- opening

-- how an opening ends
pub data Opening : Type 0 where
  Opened : Opening
  Objected : Objection → Opening
  RackFailed : Opening
  WantsMemory : Opening

-- an opening that didn't succeed may have made the root
abbrev pub unopened : Shape → Journal → Journal
unopened shape journal = unsound_with (journal.books ++ map (made_where_read shape) journal.books)

-- an unsound journal takes one of its books; want of memory leaves it as it is
abbrev pub OpensOne : Shape → Journal → Opening → Journal → Type 0
OpensOne shape old Opened new = (book : StoredBook) × Contains old.books (Ok book) × (new ≡ sound_with (made shape book))
OpensOne shape old (Objected objection) new = Contains old.books (Err objection) × (new ≡ unopened shape old)
OpensOne shape old RackFailed new = new ≡ unopened shape old
OpensOne shape old WantsMemory new = new ≡ old

-- a sound one stays as it is
abbrev pub Opens : Shape → Journal → Opening → Journal → Type 0
Opens shape old opening new = MatchBool old.is_sound ((opening ≡ Opened) × (new ≡ old)) (OpensOne shape old opening new)

-- ---- claims on a sound journal

-- no record more goes into the epoch's log, or the root has no room for those that the claim needs
abbrev pub is_full : ℕ → ℕ → ℕ → StoredBook → Bool
is_full limit epoch least book =
    nat_le limit (length (filter (λ pair. pair.0 == epoch) (pairs book))) || nat_lt limit (length (begun_with epoch (raised least book)).roots)

-- why a claim is refused, in this order
abbrev pub claim_refusal : ℕ → ℕ → List ℕ → ℕ → StoredBook → Option ClaimFault
claim_refusal limit epoch tag least book =
    if nat_lt epoch book.floor then Some (claim.Retired book.floor)
    else (if is_spent epoch tag book then Some claim.Spent
    else (if is_full limit epoch least book then Some claim.ShardFull else None))

-- A claim: refused it changes nothing, and a refusal is all that it answers then; else it is done, or the rack failed
-- somewhere on the way.
abbrev pub Claims : ℕ → ℕ → List ℕ → ℕ → StoredBook → Result (Unit {0}) ClaimFault → Journal → Type 0
Claims limit epoch tag least book (Ok _) new = (claim_refusal limit epoch tag least book ≡ None) × (new ≡ sound_with (claimed epoch (tag ∷ []) least book))
Claims limit epoch tag least book (Err claim.Failed) new = (claim_refusal limit epoch tag least book ≡ None) × (new ≡ cut_off (claim_stages epoch (tag ∷ []) least book))
Claims limit epoch tag least book (Err fault) new = (claim_refusal limit epoch tag least book ≡ Some fault) × (new ≡ sound_with book)

-- ---- retirements of a sound journal

-- the floor would rise, and the root has no room for a record
abbrev pub is_root_full : ℕ → ℕ → StoredBook → Bool
is_root_full limit floor book = nat_lt book.floor floor && nat_le limit (length book.roots)

abbrev pub Retires : ℕ → ℕ → StoredBook → Result (Unit {0}) RetireFault → Journal → Type 0
Retires limit floor book (Ok _) new = (is_root_full limit floor book ≡ false) × (new ≡ sound_with (raised floor book))
Retires limit floor book (Err retire.RootFull) new = (is_root_full limit floor book ≡ true) × (new ≡ sound_with book)
Retires limit floor book (Err retire.Failed) new = (is_root_full limit floor book ≡ false) × (new ≡ cut_off (retirement_stages floor book))
