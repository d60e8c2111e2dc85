-- The entries that room is kept by: one for a destination is found where there is room for it, and is the only one that goes.
use Rattle.std.proofs.Common.{◌≡◌, ℕ, ◌+◌, ◌<◌, ◌≤◌, Bool, true, false, cond, List, [], ◌∷◌, ◌++◌, length, Option, Some, None, refl, sym, ap, ◌∙◌, subst, arith, zero-add, IfSome, IfNone}
use Rattle.std.specs.List.{count_by, position, position_from, swap_remove, slice_index_or}
use Rattle.std.proofs.lemmas.Iterator.Adapters.{position_from-zero}
use Rattle.std.proofs.lemmas.List.Quantifiers.{position-Some}
use Rattle.std.proofs.lemmas.List.Sums.{sum_by-append, sum_by-swap_remove}
use Rattle.std.proofs.lemmas.Slice.Eq.{bytes_eq-Decides}
use Rattle.due_queue.specs.Destinations.{same_dest}
use Rattle.due_queue.specs.Queues.{room_for}
use Rattle.due_queue.specs.declared.destinations.Dest.{Dest}
use Rattle.due_queue.specs.declared.destinations.Dest.TheVariants.{Hop, Local}

-- what the test calls the same is the same
pub is_same : (dest other : Dest) → same_dest dest other ≡ true → dest ≡ other
is_same (Hop id) (Hop other) same = ap (λ bytes. Hop bytes) ((bytes_eq-Decides id other).0 same)
is_same (Hop id) Local same = absurd (cc)
is_same Local (Hop other) same = absurd (cc)
is_same Local Local same = refl

same_self : (dest : Dest) → same_dest dest dest ≡ true
same_self (Hop id) = (bytes_eq-Decides id id).1 refl
same_self Local = refl

room_for-cons : (dest one : Dest) (kept : List Dest) → room_for (one ∷ kept) dest ≡ cond (same_dest one dest) 1 0 + room_for kept dest
room_for-cons dest one kept = sum_by-append (λ (other : Dest). cond (same_dest other dest) 1 0) (one ∷ []) kept ∙ ap (λ (n : ℕ). n + room_for kept dest) (zero-add (cond (same_dest one dest) 1 0))

pub room_for-push : (dest one : Dest) (kept : List Dest) → room_for (kept ++ one ∷ []) dest ≡ room_for kept dest + cond (same_dest one dest) 1 0
room_for-push dest one kept = sum_by-append (λ (other : Dest). cond (same_dest other dest) 1 0) kept (one ∷ []) ∙ ap (λ (n : ℕ). room_for kept dest + n) (zero-add (cond (same_dest one dest) 1 0))

-- an entry added for a destination is room for it
pub pushed_room : (dest : Dest) (kept : List Dest) → room_for (kept ++ dest ∷ []) dest ≡ room_for kept dest + 1
pushed_room dest kept = room_for-push dest dest kept ∙ ap {B = ℕ} (λ same. room_for kept dest + cond same 1 0) (same_self dest)

-- where none is found there is no room
none_found : (dest : Dest) (kept : List Dest) (start : ℕ) → position_from (λ one. same_dest one dest) start kept ≡ None → room_for kept dest ≡ 0
none_found dest [] start none = refl
none_found dest (one ∷ kept) start none =
    let here : (same : Bool) → cond same (Some start) (position_from (λ other. same_dest other dest) (start + 1) kept) ≡ None → cond same 1 0 + room_for kept dest ≡ 0 =
    elim [
      | true ↦ λ is. absurd (cc)
      | false ↦ λ is. zero-add (room_for kept dest) ∙ none_found dest kept (start + 1) is
    ] in
    room_for-cons dest one kept ∙ here (same_dest one dest) none

pub no_room : (dest : Dest) (kept : List Dest) → position (λ one. same_dest one dest) kept ≡ None → room_for kept dest ≡ 0
no_room dest kept none = none_found dest kept 0 (sym (position_from-zero (λ one. same_dest one dest) kept) ∙ none)

-- one that is found is room, and without it there is one less, for this destination alone
pub found_room : (dest : Dest) (kept : List Dest) (place : ℕ) (last : Dest) → position (λ one. same_dest one dest) kept ≡ Some place
    → room_for (swap_remove kept place last) dest + 1 ≡ room_for kept dest
found_room dest kept place last found =
    let here = position-Some (λ one. same_dest one dest) kept place last found in
    sym (ap {B = ℕ} (λ same. room_for (swap_remove kept place last) dest + cond same 1 0) here.1)
    ∙ sum_by-swap_remove (λ (other : Dest). cond (same_dest other dest) 1 0) kept place last here.0

pub other_room : (dest other : Dest) (kept : List Dest) (place : ℕ) (last : Dest) → position (λ one. same_dest one dest) kept ≡ Some place
    → same_dest dest other ≡ false → room_for (swap_remove kept place last) other ≡ room_for kept other
other_room dest other kept place last found differs =
    let here = position-Some (λ one. same_dest one dest) kept place last found in
    let none : same_dest (slice_index_or kept place last) other ≡ false =
    subst (λ (one : Dest). same_dest one other ≡ false) (sym (is_same (slice_index_or kept place last) dest here.1)) differs in
    let sums = sum_by-swap_remove (λ (one : Dest). cond (same_dest one other) 1 0) kept place last here.0 in
    let added : cond (same_dest (slice_index_or kept place last) other) 1 0 ≡ 0 = ap {B = ℕ} (λ same. cond same 1 0) none in
    omega (arith, sums, added)

-- one that is found is room
pub some_room : (dest : Dest) (kept : List Dest) (place : ℕ) → position (λ one. same_dest one dest) kept ≡ Some place → 1 ≤ room_for kept dest
some_room dest kept place found = omega (arith, found_room dest kept place dest found)

-- the same of what a search gave
pub room_where_found : (dest : Dest) (kept : List Dest) (found : Option ℕ) → found ≡ position (λ one. same_dest one dest) kept → IfSome found (λ place. 1 ≤ room_for kept dest)
room_where_found dest kept None is = tt
room_where_found dest kept (Some place) is = some_room dest kept place (sym is)

pub none_where_not : (dest : Dest) (kept : List Dest) (found : Option ℕ) → found ≡ position (λ one. same_dest one dest) kept → IfNone found (room_for kept dest ≡ 0)
none_where_not dest kept None is = no_room dest kept (sym is)
none_where_not dest kept (Some place) is = tt
