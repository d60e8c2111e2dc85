-- The rule of the lock's table: there is one story.
-- Word 0 is the count of entries, word 1 is busy. The slot has the value, unless a seat took it out.
use Rattle.std.specs.Prelude.{◌≡◌, ℕ, ◌%◌, ◌^◌, ◌<◌, ◌≤◌, ⊤, List, [], ◌∷◌, ◌++◌, length, Contains, Option, Some}
use mathlib.Core.Option.{none, some}
use mathlib.Core.Option as maybe
use lib.ListN.{get_elem?}
use Rattle.atomic_table.specs.Table.{State}
use Rattle.turn_lock.specs.Seen.{Origin}
use Rattle.turn_lock.specs.Stories.{entries_by, Begins}
use Rattle.turn_lock.specs.declared.view.Role.{Role}
use Rattle.turn_lock.specs.declared.view.Role.TheVariants.{Spent, Rests, Turns}
use Rattle.turn_lock.specs.declared.view.View.{View}

-- where the value is: at home, or out with the seat of this number
pub data Place (T : Type 0) : Type 0 where
  home : T → Place T
  out : ℕ → Place T

module _ {T : Type 0} where
  abbrev pub busy_of : Place T → ℕ
  busy_of (home x) = 0
  busy_of (out id) = 1

  abbrev pub slot_of : Place T → maybe.Option (Option T)
  slot_of (home x) = some (Some x)
  slot_of (out id) = none

-- the view of a seat that another took in speaks for nobody
abbrev pub IsLive : Role → Type 0
IsLive Spent = ⊥
IsLive Rests = ⊤
IsLive Turns = ⊤

module _ {T E : Type 0} (origin : T → Origin) (story : T → List E) (caller : E → ℕ) where
  -- a caller's number was given to this seat; its entries are those that the view keeps for it, and the seat has seen them all
  pub record Speaks (next : ℕ) (seat : ℕ → ℕ) (since rest : List E) (id : ℕ) (k : ℕ × List E) : Type 0 where
    pub given : k.0 < next
    pub here : seat k.0 ≡ id
    pub kept : entries_by caller k.0 since ≡ k.1
    pub seen : entries_by caller k.0 rest ≡ []

  -- a seat at turn has the value out, has seen the whole story, and speaks for one caller
  abbrev pub Poses : List E → Place T → ℕ → View E → Role → Type 0
  Poses whole place id v Spent = ⊤
  Poses whole place id v Rests = ⊤
  Poses whole place id v Turns = (place ≡ out id) × (v.seen ≡ whole) × ((k : ℕ × List E) × (v.callers ≡ k ∷ []))

  -- what the rule says of a seat
  pub record Knows (o : Origin) (first : List E) (next : ℕ) (seat : ℕ → ℕ) (since : List E) (place : Place T) (id : ℕ) (v : View E) : Type 0 where
    pub same : v.origin ≡ o
    pub opened : Begins first v.seen
    pub rest : List E
    pub begins : v.seen ++ rest ≡ first ++ since
    pub told : (story : List E) → Contains v.heard story → Begins story (first ++ since)
    pub speaks : (k : ℕ × List E) → Contains v.callers k → Speaks next seat since rest id k
    pub deals : (n : ℕ) → v.next ≡ Some n → (id ≡ 0) × (n ≡ next)
    pub poses : Poses (first ++ since) place id v v.role

  -- at home the value has the whole story; it is out while the view of the seat that took it is at turn
  abbrev pub Placed : Origin → List E → List (View E) → Place T → Type 0
  Placed o whole views (home x) = (origin x ≡ o) × (story x ≡ whole)
  Placed o whole views (out id) = (v : View E) × (get_elem? views id ≡ some v) × (v.role ≡ Turns)

  -- There is one story, which begins with the first. Each seat has seen a beginning of it, each caller speaks through one seat,
  -- and the first seat gives the callers' numbers away
  pub record OneStory (o : Origin) (first : List E) (all : ℕ) (s : State (Option T) (View E)) : Type 0 where
    pub next : ℕ
    pub seat : ℕ → ℕ
    pub since : List E
    pub place : Place T
    pub few : next ≤ all
    pub words : s.words ≡ length (first ++ since) % 2 ^ 64 ∷ busy_of place ∷ []
    pub homes : s.homes ≡ slot_of place ∷ []
    pub placed : Placed o (first ++ since) s.views place
    pub each : (id : ℕ) (v : View E) → get_elem? s.views id ≡ some v → IsLive v.role → Knows o first next seat since place id v
    pub strangers : (c : ℕ) → next ≤ c → entries_by caller c since ≡ []
