-- What a change leaves, moment after moment: which areas stay, and more stages than one step has.
use Rattle.std.proofs.Common.{◌≡◌, ◌⊎◌, inl, inr, ℕ, ◌==◌, true, false, List, [], ◌∷◌, ◌++◌, Contains, Result, Ok, Err, OnErr, refl, sym, ◌∙◌, subst, arith}
use Rattle.std.proofs.lemmas.Bool.{eq-eqb, or_left}
use Rattle.std.proofs.lemmas.List.{map-append}
use Rattle.std.proofs.lemmas.List.Elements.{Contains-append_left}
use Rattle.mix_base.proofs.Members.{Contains-tail}
use Rattle.mix_base.specs.declared.shards.Shape.{Shape}
use Rattle.replay_disk.specs.Disk.{Areas, RackState}
use Rattle.replay_disk.specs.Moments.{AtEachMoment}
use Rattle.replay_disk.proofs.Laws.{weaker, chained}
use Rattle.gate_log.specs.Log.{OthersStay}
use Rattle.spent_store.specs.Books.{StoredBook, area_of, is_used}
use Rattle.spent_store.specs.Kept.{Leaves}
use Rattle.spent_store.specs.Stores.{UnusedStay, opened, as_read}
use Rattle.spent_store.specs.declared.faults.Objection.{Objection}

-- ---- among the stages

pub among_front : (stages more : List StoredBook) (read : Result StoredBook Objection) → Contains (as_read stages) read → Contains (as_read (stages ++ more)) read
among_front stages more read there =
    subst (λ (found : List (Result StoredBook Objection)). Contains found read) (sym (map-append (λ (book : StoredBook). Ok book) stages more)) (Contains-append_left (as_read stages) (as_read more) read there)

pub among_behind : (book : StoredBook) (stages : List StoredBook) (read : Result StoredBook Objection) → Contains (as_read stages) read → Contains (as_read (book ∷ stages)) read
among_behind book stages read there = Contains-tail (Ok book) (as_read stages) read there

-- ---- which areas stay

-- only the root changed, or the area of one of these epochs
pub unused_but : (area : ℕ) (epochs : List ℕ) (old now : Areas) → (area ≡ 0) ⊎ (is_used area epochs ≡ true) → OthersStay area old now → UnusedStay epochs old now
unused_but area epochs old now touched others other some low unused =
    others other low (λ same.
    elim touched [
      | inl zero ↦ omega (arith, some, same, zero)
      | inr used ↦ let here : is_used other epochs ≡ true = subst (λ (a : ℕ). is_used a epochs ≡ true) (sym same) used in absurd (cc)
    ])

pub unused_then : (epochs : List ℕ) (first mid last : Areas) → UnusedStay epochs first mid → UnusedStay epochs mid last → UnusedStay epochs first last
unused_then epochs first mid last before then area some low unused = then area some low unused ∙ before area some low unused

-- an epoch's area is its own
pub own_area : (epoch : ℕ) → is_used (area_of epoch) (epoch ∷ []) ≡ true
own_area epoch = or_left (area_of epoch == area_of epoch) false (eq-eqb (area_of epoch) (area_of epoch) refl)

-- ---- at every moment

module _ (shape : Shape) (limit : ℕ) (epochs : List ℕ) where
  abbrev Through : List StoredBook → RackState → RackState → Type 0
  Through stages first last = AtEachMoment (Leaves shape limit stages epochs first.areas) first last

  -- stages to come
  pub through_front : (stages more : List StoredBook) (first last : RackState) → Through stages first last → Through (stages ++ more) first last
  through_front stages more first last moments =
      weaker (Leaves shape limit stages epochs first.areas) (Leaves shape limit (stages ++ more) epochs first.areas) first last
      (λ now leaves. record { opens = λ left. among_front stages more (opened shape limit now left) (leaves.opens left); others = leaves.others }) moments

  -- a stage before
  pub through_behind : (book : StoredBook) (stages : List StoredBook) (first last : RackState) → Through stages first last → Through (book ∷ stages) first last
  through_behind book stages first last moments =
      weaker (Leaves shape limit stages epochs first.areas) (Leaves shape limit (book ∷ stages) epochs first.areas) first last
      (λ now leaves. record { opens = λ left. among_behind book stages (opened shape limit now left) (leaves.opens left); others = leaves.others }) moments

  -- one call after another
  pub through_then : (stages : List StoredBook) (first mid last : RackState) → Through stages first mid → Through stages mid last → Through stages first last
  through_then stages first mid last before then =
      chained (Leaves shape limit stages epochs first.areas) first mid last before
      (weaker (Leaves shape limit stages epochs mid.areas) (Leaves shape limit stages epochs first.areas) mid last
      (λ now leaves. record { opens = leaves.opens; others = unused_then epochs first.areas mid.areas now before.now.others leaves.others }) then)

-- what follows of a failure
pub on_err : {T E P Q : Type 0} (result : Result T E) → (P → Q) → OnErr result P → OnErr result Q
on_err (Ok given) more never = never
on_err (Err fault) more there = more there

-- what holds in any case holds of a failure
pub on_any : {T E P : Type 0} (result : Result T E) → P → OnErr result P
on_any (Ok given) there = tt
on_any (Err fault) there = there
