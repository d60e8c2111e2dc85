-- A packet that is claimed once is taken out once: what is held was accepted, and what is taken out isn't held any
-- more.
use Rattle.std.proofs.Common.{◌≡◌, ◌≢◌, ℕ, ◌+◌, ◌≤◌, ◌==◌, cond, List, [], ◌∷◌, ◌++◌, refl, sym, ap, ◌∙◌, inl, inr, arith, eq-eqb, ne_eqb}
use Rattle.std.specs.Prelude.{Contains, flat_map, sum_by}
use Rattle.std.proofs.lemmas.Bool.{cases_eq}
use Rattle.std.proofs.lemmas.List.Sums.{sum_by-cons}
use Rattle.mix_base.specs.Suites.{SuiteMeaning}
use Rattle.mix_base.proofs.Members.{Contains-cons_cases, Contains-head, Contains-tail, none_in_empty}
use Rattle.mix_shard.specs.Items.{Item}
use Rattle.mix_shard.specs.Tale.{State, Tale}
use Rattle.mix_shard.specs.declared.entries.Answer.TheVariants.{Taken, Retired, Spent, ShardFull, RootFull, Disk, Journal}
use Rattle.mix_shard.specs.declared.entries.Entry.{Entry}
use Rattle.mix_shard.specs.declared.entries.Entry.TheVariants.{Claim, Take, Rotate, Done, Reopened}
use Rattle.mix_shard.specs.declared.entries.Told.{Told}
use Rattle.mix_shard.specs.declared.terms.Terms.{Terms}
use Rattle.node_actors.proofs.Tallies.{accepted_weight, held_weight, taken_weight, tale_weighs}
use Rattle.node_run.specs.Orders.{Differ, claim_numbers, claimed_number, take_numbers, taken_number}
use Rattle.node_run.proofs.Elements.{pairs_cons, pairs_head, pairs_nil, pairs_tail}

-- ---- how often a number stands in a list

abbrev one_for : ℕ → ℕ → ℕ
one_for m n = cond (n == m) 1 0

abbrev times : ℕ → List ℕ → ℕ
times m [] = 0
times m (n ∷ ns) = one_for m n + times m ns

times_append : (m : ℕ) (ns os : List ℕ) → times m (ns ++ os) ≡ times m ns + times m os
times_append m [] os = omega arith
times_append m (n ∷ ns) os = let rest = times_append m ns os in omega arith

times_some : (m : ℕ) (ns : List ℕ) → Contains ns m → 1 ≤ times m ns
times_some m [] found = absurd (none_in_empty m found)
times_some m (n ∷ ns) found =
    elim (Contains-cons_cases n ns m found) [
      | inl same ↦ let here : one_for m n ≡ 1 = rw (eq-eqb n m same) refl in omega arith
      | inr later ↦ let rest = times_some m ns later in omega arith
    ]

differ_times : (ns : List ℕ) → ((m : ℕ) → times m ns ≤ 1) → Differ ns
differ_times [] few = pairs_nil (λ (x y : ℕ). x ≢ y)
differ_times (n ∷ ns) few =
    pairs_cons (λ (x y : ℕ). x ≢ y) n ns
    (λ m found same.
    let again = times_some m ns found in
    let here : one_for m n ≡ 1 = rw (eq-eqb n m same) refl in
    let most = few m in
    omega arith)
    (differ_times ns (λ m. let most = few m in omega arith))

times_none : (m : ℕ) (ns : List ℕ) → ((n : ℕ) → Contains ns n → m ≢ n) → times m ns ≡ 0
times_none m [] none = refl
times_none m (n ∷ ns) none =
    let rest = times_none m ns (λ o found. none o (Contains-tail n ns o found)) in
    let here : one_for m n ≡ 0 = rw (ne_eqb n m (λ same. none n (Contains-head n ns) (sym same))) refl in
    omega arith

times_differ : (m : ℕ) (ns : List ℕ) → Differ ns → times m ns ≤ 1
times_differ m [] differ = omega arith
times_differ m (n ∷ ns) differ =
    let rest = times_differ m ns (pairs_tail (λ (x y : ℕ). x ≢ y) n ns differ) in
    elim (cases_eq n m) [
      | inl same ↦
          let none : times m ns ≡ 0 = times_none m ns (λ o found here. pairs_head (λ (x y : ℕ). x ≢ y) n ns o differ found (same ∙ here)) in
          let here : one_for m n ≡ 1 = rw (eq-eqb n m same) refl in
          omega arith
      | inr apart ↦ let here : one_for m n ≡ 0 = rw (ne_eqb n m apart) refl in omega arith
    ]

-- ---- the numbers of what was accepted

abbrev accepted_number : Entry → List ℕ
accepted_number (Claim caller number epoch tag at Taken) = number ∷ []
accepted_number _ = []

abbrev accepted_numbers : List Told → List ℕ
accepted_numbers tale = flat_map (λ told. accepted_number told.entry) tale

fewer_by : (m : ℕ) (entry : Entry) → times m (accepted_number entry) ≤ times m (claimed_number entry)
fewer_by m (Claim caller number epoch tag at Taken) = omega arith
fewer_by m (Claim caller number epoch tag at (Retired floor)) = omega arith
fewer_by m (Claim caller number epoch tag at Spent) = omega arith
fewer_by m (Claim caller number epoch tag at ShardFull) = omega arith
fewer_by m (Claim caller number epoch tag at RootFull) = omega arith
fewer_by m (Claim caller number epoch tag at Disk) = omega arith
fewer_by m (Claim caller number epoch tag at Journal) = omega arith
fewer_by m (Take caller number dest moment) = omega arith
fewer_by m (Rotate caller moment answer) = omega arith
fewer_by m (Done caller) = omega arith
fewer_by m (Reopened caller floor pairs) = omega arith

fewer : (m : ℕ) (tale : List Told) → times m (accepted_numbers tale) ≤ times m (claim_numbers tale)
fewer m [] = omega arith
fewer m (told ∷ others) =
    let first = fewer_by m told.entry in
    let rest = fewer m others in
    let left = times_append m (accepted_number told.entry) (accepted_numbers others) in
    let right = times_append m (claimed_number told.entry) (claim_numbers others) in
    omega arith

-- ---- what is held, by how often a number stands in it

times_taken : (m : ℕ) (entry : Entry) → taken_weight (one_for m) entry ≡ times m (taken_number entry)
times_taken m (Claim caller number epoch tag at answer) = refl
times_taken m (Take caller number dest moment) = omega arith
times_taken m (Rotate caller moment answer) = refl
times_taken m (Done caller) = refl
times_taken m (Reopened caller floor pairs) = refl

times_accepted : (m : ℕ) (entry : Entry) → accepted_weight (one_for m) entry ≡ times m (accepted_number entry)
times_accepted m (Claim caller number epoch tag at Taken) = omega arith
times_accepted m (Claim caller number epoch tag at (Retired floor)) = refl
times_accepted m (Claim caller number epoch tag at Spent) = refl
times_accepted m (Claim caller number epoch tag at ShardFull) = refl
times_accepted m (Claim caller number epoch tag at RootFull) = refl
times_accepted m (Claim caller number epoch tag at Disk) = refl
times_accepted m (Claim caller number epoch tag at Journal) = refl
times_accepted m (Take caller number dest moment) = refl
times_accepted m (Rotate caller moment answer) = refl
times_accepted m (Done caller) = refl
times_accepted m (Reopened caller floor pairs) = refl

times_all : (m : ℕ) (weight : Entry → ℕ) (numbers : Entry → List ℕ) → ((entry : Entry) → weight entry ≡ times m (numbers entry)) → (tale : List Told)
    → sum_by (λ (told : Told). weight told.entry) tale ≡ times m (flat_map (λ told. numbers told.entry) tale)
times_all m weight numbers each [] = refl
times_all m weight numbers each (told ∷ others) =
    let first = each told.entry in
    let rest = times_all m weight numbers each others in
    let whole = times_append m (numbers told.entry) (flat_map (λ (t : Told). numbers t.entry) others) in
    let sum = sum_by-cons (λ (t : Told). weight t.entry) told others in
    omega arith

-- where nothing was held, and no number is claimed twice, none is taken out twice
pub takes_once : (tells : Type 0) (suite : SuiteMeaning) (terms : Terms) (old new : State) (tale : List Told) → Tale tells suite terms old tale new
    → old.held ≡ [] → Differ (claim_numbers tale) → Differ (take_numbers tale)
takes_once tells suite terms old new tale told empty differ =
    differ_times (take_numbers tale) (λ m.
    let counted = tale_weighs tells suite terms (one_for m) old new tale told in
    let out = times_all m (taken_weight (one_for m)) taken_number (times_taken m) tale in
    let taken = times_all m (accepted_weight (one_for m)) accepted_number (times_accepted m) tale in
    let none : held_weight (one_for m) old.held ≡ 0 = ap (held_weight (one_for m)) empty in
    let few = fewer m tale in
    let once = times_differ m (claim_numbers tale) differ in
    omega arith)
