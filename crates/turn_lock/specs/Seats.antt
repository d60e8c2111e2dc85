-- Words of the proof alone: what each step on the lock's table does to a seat, and what the crate's functions keep of one.
use Rattle.std.specs.Prelude.{◌≡◌, ◌≢◌, ℕ, ◌+◌, ◌-◌, Bool, map, true, false, List, [], ◌∷◌, ◌++◌, length, All, Contains, Option, Some, None}
use Rattle.std.specs.List.{range_with_len}
use Rattle.atomic_table.specs.Table.{Me}
use Rattle.atomic_table.specs.Seated.{TableId}
use Rattle.atomic_table.specs.declared.shared.Seat.{Seat}
use Rattle.turn_lock.specs.Seen.{Origin, Lock, Caller, new_pass}
use Rattle.turn_lock.specs.Stories.{entries_by, after, Begins, longer}
use Rattle.turn_lock.specs.declared.view.Role.{Role}
use Rattle.turn_lock.specs.declared.view.Role.TheVariants.{Spent, Rests, Turns}
use Rattle.turn_lock.specs.declared.view.View.{View}

-- the least number that isn't given away yet, at the first seat
abbrev pub next_of : Option ℕ → ℕ
next_of (Some n) = n
next_of None = 0

module _ {E : Type 0} where
  abbrev pub view : Role → Option ℕ → List (ℕ × List E) → Origin → List E → List (List E) → View E
  view role next callers origin seen heard = record { role = role; next = next; callers = callers; origin = origin; seen = seen; heard = heard }

  abbrev pub spent : View E
  spent = view Spent None [] [] [] []

  -- the first seat has caller 0, and gives the numbers from `next` on away
  abbrev pub first_seat : ℕ → Origin → List E → View E
  first_seat next origin seen = view Rests (Some next) ((0, []) ∷ []) origin seen []

  -- the first seat once a number more is given away, and the view of the caller who has it
  abbrev pub dealt : View E → View E
  dealt v = view v.role (Some (next_of v.next + 1)) v.callers v.origin v.seen v.heard

  abbrev pub newcomer : View E → View E
  newcomer v = view Rests None ((next_of v.next, []) ∷ []) v.origin v.seen []

  -- one view for the callers of two: the second is joined into the first
  abbrev pub both : View E → View E → View E
  both v w = view Rests v.next (v.callers ++ w.callers) v.origin (longer v.seen w.seen) (v.seen ∷ w.seen ∷ (v.heard ++ w.heard))

  -- one pass for each number from a on below n
  abbrev pub passes_from : Lock E → ℕ → ℕ → List (Caller E)
  passes_from lock a n = map (new_pass lock) (range_with_len a (n - a))

  -- the one caller of a seat has made these entries too
  abbrev pub made_more : List (ℕ × List E) → List E → List (ℕ × List E)
  made_more [] added = []
  made_more (k ∷ ks) added = (k.0, k.1 ++ added) ∷ []

module _ {T E : Type 0} (origin : T → Origin) (story : T → List E) (caller : E → ℕ) where
  abbrev pub Sat : Type 0
  Sat = Me (Option T) (View E)

  -- the value came out of its slot: its story begins with all that was seen, and what follows has no entry of the seat's callers
  pub record Took (m : Sat) (x : T) (n : Sat) : Type 0 where
    pub hand : n.1 ≡ (0, Some x) ∷ []
    pub origin_is : origin x ≡ m.0.origin
    pub begins : Begins m.0.seen (story x)
    pub others : (k : ℕ × List E) → Contains m.0.callers k → entries_by caller k.0 (after m.0.seen (story x)) ≡ []
    pub now : n.0 ≡ view Turns m.0.next m.0.callers m.0.origin (story x) m.0.heard

  -- exchange of busy from 0 to 1
  abbrev pub takes_turn : Sat → ℕ → Sat → Type 0
  takes_turn m found n = (found ≡ 0 → (x : T) × Took m x n) × (found ≢ 0 → n ≡ m)

  -- The value is out, and has k entries more than the seat has seen, all made by its caller
  pub record Brings (value : T) (added : List E) (m : Sat) (k : ℕ) : Type 0 where
    pub number : ℕ
    pub made : List E
    pub turns : m.0.role ≡ Turns
    pub out : m.1 ≡ (0, None) ∷ []
    pub one : m.0.callers ≡ (number, made) ∷ []
    pub grew : m.0.seen ++ added ≡ story value
    pub his : All (λ e. caller e ≡ number) added
    pub many : k ≡ length added

  -- the value is back, and has the story that the seat has seen
  pub record IsBack (m : Sat) : Type 0 where
    pub value : T
    pub turns : m.0.role ≡ Turns
    pub hand : m.1 ≡ (0, Some value) ∷ []
    pub told : story value ≡ m.0.seen
    pub same : origin value ≡ m.0.origin

-- whether a seat is at turn
abbrev pub is_at_turn : Role → Bool
is_at_turn Turns = true
is_at_turn _ = false

-- the entries that the one caller of a pass made
abbrev pub made_by : {E : Type 0} → List (ℕ × List E) → List E
made_by [] = []
made_by (k ∷ ks) = k.1

-- the view speaks for this pass, and was told of all that it had seen
abbrev pub SpeaksFor : {E : Type 0} → View E → Caller E → Type 0
SpeaksFor v pass = Contains v.callers (pass.number, pass.made) × Contains (v.seen ∷ v.heard) pass.seen

module _ {T E : Type 0} where
  -- an add to the count: what was seen and what the caller made grow by these entries
  abbrev pub grown : List E → Me (Option T) (View E) → Me (Option T) (View E)
  grown added m = (view Turns m.0.next (made_more m.0.callers added) m.0.origin (m.0.seen ++ added) m.0.heard, m.1)

  -- swap of busy to 0
  abbrev pub ended : Me (Option T) (View E) → Me (Option T) (View E)
  ended m = (view Rests m.0.next m.0.callers m.0.origin m.0.seen m.0.heard, [])

  -- a seat of one caller that may take its turn: at rest, with no slot in hand
  abbrev pub MayTurn : Me (Option T) (View E) → Type 0
  MayTurn m = (m.0.role ≡ Rests) × (m.1 ≡ []) × ((k : ℕ × List E) × (m.0.callers ≡ k ∷ []))

  -- the seat is one of this table, which has both words
  abbrev pub IsSeatOf : TableId → Seat (Option T) (View E) → Type 0
  IsSeatOf table seat = (seat.table_id ≡ table) × (table.words ≡ 2)

  abbrev pub IsSameSeat : Seat (Option T) (View E) → Seat (Option T) (View E) → Type 0
  IsSameSeat s t = (t.table_id ≡ s.table_id) × (t.id ≡ s.id)

  -- the first seat of this lock, which gives away the callers' numbers from `next` on
  abbrev pub IsFirst : Lock E → ℕ → Seat (Option T) (View E) → Type 0
  IsFirst lock next seat = (seat.table_id ≡ lock.id) × (seat.me ≡ (first_seat next lock.origin lock.story, []))

  -- the pass has given up its seat, which is at rest
  abbrev pub IsSeatFor : Caller E → Seat (Option T) (View E) → Type 0
  IsSeatFor pass seat = (seat.table_id ≡ pass.lock) × (seat.me.0.role ≡ Rests) × (seat.me.1 ≡ []) × (seat.me.0.callers ≡ (pass.number, pass.made) ∷ []) × (seat.me.0.seen ≡ pass.seen)

  -- one seat, at rest, that speaks for these passes
  pub record IsSeatOfAll (lock : Lock E) (passes : List (Caller E)) (seat : Seat (Option T) (View E)) : Type 0 where
    pub table : seat.table_id ≡ lock.id
    pub rests : seat.me.0.role ≡ Rests
    pub empty : seat.me.1 ≡ []
    pub speaks : All (SpeaksFor seat.me.0) passes

  -- a pass holds nothing at rest. At turn the slot is its own, the value is out, and `entries` counts what it has seen
  abbrev pub Stands : ℕ → Me (Option T) (View E) → Role → Type 0
  Stands entries m Rests = m.1 ≡ []
  Stands entries m Turns = (m.1 ≡ (0, None) ∷ []) × (entries ≡ length m.0.seen)
  Stands entries m Spent = ⊥

  -- what a pass keeps between its calls
  pub record IsPass (number entries : ℕ) (m : Me (Option T) (View E)) : Type 0 where
    pub one : m.0.callers ≡ (number, made_by m.0.callers) ∷ []
    pub stands : Stands entries m m.0.role
