-- What contracts see of a lock and of a pass.
use Rattle.std.specs.Prelude.{◌≡◌, ℕ, ⊤, Bool, true, false, ◌+◌, List, [], ◌∷◌, ◌++◌, map, refl}
use Rattle.std.specs.List.{range_with_len}
use Rattle.std.specs.Coded.{Coded, code_by, coded×, coded_ℕ, coded_bool, coded_list}
use Rattle.atomic_table.specs.Seated.{TableId, table_id_coded}
use Rattle.turn_lock.specs.Stories.{after}

-- plain data: lists of lists of numbers
abbrev pub Origin : Type 0
Origin = List (List ℕ)

-- which lock it is, for how many callers, and the origin and the story of the value that it was made with
pub record Lock (E : Type 0) : Type 0 where
  pub id : TableId
  pub callers : ℕ
  pub origin : Origin
  pub story : List E

-- whose pass it is, to which lock, and whether it holds the value; the story that it has seen, and the entries that it made
pub record Caller (E : Type 0) : Type 0 where
  pub lock : TableId
  pub number : ℕ
  pub holds : Bool
  pub origin : Origin
  pub seen : List E
  pub made : List E

abbrev coded_origin : Coded Origin
coded_origin = coded_list (coded_list coded_ℕ)

-- a lock is stored as the tuple of its fields
abbrev pub lock_code : {E : Type 0} → Coded E → Coded (Lock E)
lock_code {E} c = code_by (TableId × (ℕ × (Origin × List E))) (coded× table_id_coded (coded× coded_ℕ (coded× coded_origin (coded_list c))))
    (λ l. (l.id, (l.callers, (l.origin, l.story)))) (λ p. record { id = p.0; callers = p.1.0; origin = p.1.1.0; story = p.1.1.1 }) (λ _. refl)

-- and so is a caller
abbrev pub caller_code : {E : Type 0} → Coded E → Coded (Caller E)
caller_code {E} c = code_by (TableId × (ℕ × (Bool × (Origin × (List E × List E))))) (coded× table_id_coded (coded× coded_ℕ (coded× coded_bool (coded× coded_origin (coded× (coded_list c) (coded_list c))))))
    (λ p. (p.lock, (p.number, (p.holds, (p.origin, (p.seen, p.made)))))) (λ t. record { lock = t.0; number = t.1.0; holds = t.1.1.0; origin = t.1.1.1.0; seen = t.1.1.1.1.0; made = t.1.1.1.1.1 }) (λ _. refl)

module _ {E : Type 0} where
  -- the lock was made for so many callers, over a value with this origin and story
  abbrev pub IsLockOver : Lock E → ℕ → Origin → List E → Type 0
  IsLockOver lock callers origin story = (lock.callers ≡ callers) × (lock.origin ≡ origin) × (lock.story ≡ story)

  -- the pass is one of this lock, and knows its origin
  abbrev pub IsOf : Lock E → Caller E → Type 0
  IsOf lock pass = (pass.lock ≡ lock.id) × (pass.origin ≡ lock.origin)

  -- the pass with this number, of this lock, holds nothing
  abbrev pub IsIdle : Lock E → ℕ → Caller E → Type 0
  IsIdle lock number pass = IsOf lock pass × (pass.holds ≡ false) × (pass.number ≡ number)

  -- these are the passes with the numbers from n on, and they hold nothing
  abbrev pub AreIdle : Lock E → ℕ → List (Caller E) → Type 0
  AreIdle lock n [] = ⊤
  AreIdle lock n (p ∷ ps) = IsIdle lock n p × AreIdle lock (n + 1) ps

  -- the pass with this number as the lock is made: it has seen the lock's first story
  abbrev pub new_pass : Lock E → ℕ → Caller E
  new_pass lock number = record { lock = lock.id; number = number; holds = false; origin = lock.origin; seen = lock.story; made = [] }

  -- one pass for each number below n
  abbrev pub new_passes : Lock E → ℕ → List (Caller E)
  new_passes lock n = map (new_pass lock) (range_with_len 0 n)

  -- the pass once it was given a value with this story
  abbrev pub holding : Caller E → List E → Caller E
  holding pass story = record pass { holds = true; seen = story }

  -- the pass once it gave back a value with this story
  abbrev pub resting : Caller E → List E → Caller E
  resting pass story = record pass { holds = false; seen = story; made = pass.made ++ after pass.seen story }
