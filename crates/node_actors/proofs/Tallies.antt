-- What a tale says of its end: which callers are done is who ended, and as many packets are held as were accepted and not
-- taken out.
use Rattle.std.proofs.Common.{◌≡◌, ℕ, ◌+◌, ◌<◌, ◌==◌, ◌||◌, Bool, true, false, List, [], ◌∷◌, ◌++◌, length, get_or, set, refl, sym, ap, subst, ◌∙◌, ⊎_elim, arith, eq-eqb, ne_eqb, Result, Ok, Err}
use Rattle.std.specs.Prelude.{cond, filter, sum_by}
use Rattle.std.proofs.lemmas.List.{get_or-set_same, get_or-set_other, length-set}
use Rattle.std.proofs.lemmas.List.Sorted.{sum_by-IsPermutation, sum_by_popped}
use Rattle.std.proofs.lemmas.List.Sums.{sum_by-append, sum_by-cons}
use mathlib.Core.Logic.{dite}
use native.Mathlib.Decide.{ℕ_discrete}
use Rattle.mix_base.specs.Suites.{SuiteMeaning}
use Rattle.spent_store.specs.declared.faults.ClaimFault.{ClaimFault}
use Rattle.spent_store.specs.declared.faults.ClaimFault.TheVariants as claim
use Rattle.mix_shard.specs.Entries.{claim_answer}
use Rattle.mix_shard.specs.Items.{Item}
use Rattle.mix_shard.specs.Tale.{ClaimsItem, HeldAfter, Hinders, Rotates, Says, State, StaysUnsound, Tale}
use Rattle.mix_shard.proofs.Tales.{unheard_none}
use Rattle.mix_shard.specs.declared.entries.Answer.{Answer}
use Rattle.mix_shard.specs.declared.entries.Answer.TheVariants.{Taken, Retired, Spent, ShardFull, RootFull, Disk, Journal}
use Rattle.mix_shard.specs.declared.entries.Entry.{Entry}
use Rattle.mix_shard.specs.declared.entries.Entry.TheVariants.{Claim, Take, Rotate, Done, Reopened}
use Rattle.mix_shard.specs.declared.entries.Told.{Told}
use Rattle.mix_shard.specs.declared.terms.Terms.{Terms}
use Rattle.node_actors.specs.Calls.{acceptances, ends_by, has_ended, is_accepted, is_take, takes}

-- one for true
abbrev one : Bool → ℕ
one true = 1
one false = 0

filter_one : (p : Told → Bool) (x : Told) (xs : List Told) → length (filter p (x ∷ xs)) ≡ one (p x) + length (filter p xs)
filter_one p x xs = by_test (p x)
  where
    by_test : (b : Bool) → length (cond b (x ∷ filter p xs) (filter p xs)) ≡ one b + length (filter p xs)
    by_test true = omega arith
    by_test false = omega arith

or_swap : (a b c : Bool) → (b || (a || c)) ≡ ((a || b) || c)
or_swap true true c = refl
or_swap true false c = refl
or_swap false true c = refl
or_swap false false c = refl

set_done : (done : List Bool) (who c : ℕ) → c < length done → get_or (set done who true) c false ≡ ((who == c) || get_or done c false)
set_done done who c low =
    dite (ℕ_discrete who c)
    (λ same. rw (eq-eqb who c same) (subst (λ (n : ℕ). get_or (set done n true) c false ≡ true) (sym same) (get_or-set_same done c true false low)))
    (λ other. rw (ne_eqb who c other) (get_or-set_other done who c true false (λ same. other (sym same))))

module _ (tells : Type 0) (suite : SuiteMeaning) (terms : Terms) where
  -- ---- who is done

  pub record Ends (c : ℕ) (ends : Bool) (old new : State) : Type 0 where
    pub many : length new.done ≡ length old.done
    pub done : get_or new.done c false ≡ (ends || get_or old.done c false)

  same_done : (c : ℕ) (old new : State) → new.done ≡ old.done → Ends c false old new
  same_done c old new same = record { many = ap (λ (d : List Bool). length d) same; done = ap (λ (d : List Bool). get_or d c false) same }

  unsound_done : (answer : Answer) (old new : State) → StaysUnsound tells terms answer old new → new.done ≡ old.done
  unsound_done answer old new stays = ap (λ (s : State). s.done) stays.new_is

  pub says_done : (told : Told) (entry : Entry) (old new : State) (c : ℕ) → c < length old.done → Says tells suite terms told entry old new → Ends c (ends_by c entry) old new
  says_done told (Claim caller number epoch tag at answer) old new c low says =
      same_done c old new (⊎_elim (λ (h : ClaimsItem terms says.1 answer old new). h.done) (λ (h : StaysUnsound tells terms answer old new). unsound_done answer old new h) says.3)
  says_done told (Take caller number dest moment) old new c low says = same_done c old new says.done
  says_done told (Rotate caller moment answer) old new c low says =
      same_done c old new (⊎_elim (λ (h : Rotates terms moment answer old new). h.done) (λ (h : StaysUnsound tells terms answer old new). unsound_done answer old new h) says)
  says_done told (Done who) old new c low says = record {
    many = ap (λ (s : State). length s.done) says.1 ∙ length-set old.done who true;
    done = ap (λ (s : State). get_or s.done c false) says.1 ∙ set_done old.done who c low;
  }
  says_done told (Reopened caller floor pairs) old new c low says = same_done c old new (ap (λ (s : State). s.done) says.new_is)

  pub says_many : (told : Told) (entry : Entry) (old new : State) → Says tells suite terms told entry old new → length new.done ≡ length old.done
  says_many told (Claim caller number epoch tag at answer) old new says =
      ap (λ (d : List Bool). length d) (⊎_elim (λ (h : ClaimsItem terms says.1 answer old new). h.done) (λ (h : StaysUnsound tells terms answer old new). unsound_done answer old new h) says.3)
  says_many told (Take caller number dest moment) old new says = ap (λ (d : List Bool). length d) says.done
  says_many told (Rotate caller moment answer) old new says =
      ap (λ (d : List Bool). length d) (⊎_elim (λ (h : Rotates terms moment answer old new). h.done) (λ (h : StaysUnsound tells terms answer old new). unsound_done answer old new h) says)
  says_many told (Done who) old new says = ap (λ (s : State). length s.done) says.1 ∙ length-set old.done who true
  says_many told (Reopened caller floor pairs) old new says = ap (λ (s : State). length s.done) says.new_is

  pub tale_done : (old new : State) (tale : List Told) (c : ℕ) → c < length old.done → Tale tells suite terms old tale new
      → (length new.done ≡ length old.done) × (get_or new.done c false ≡ (has_ended c tale || get_or old.done c false))
  tale_done old new [] c low unheard =
      (ap (λ (s : State). length s.done) unheard.new_is, ap (λ (s : State). get_or s.done c false) unheard.new_is)
  tale_done old new (told ∷ others) c low tale =
      let before : tale.0.done ≡ old.done = ap (λ (s : State). s.done) tale.2.new_is in
      let low_before : c < length tale.0.done = subst (λ (d : List Bool). c < length d) (sym before) low in
      let step = says_done told told.entry tale.0 tale.1 c low_before tale.3 in
      let low_after : c < length tale.1.done = subst (λ (n : ℕ). c < n) (sym step.many) low_before in
      let rest = tale_done tale.1 new others c low_after tale.4 in (
        rest.0 ∙ (step.many ∙ ap (λ (d : List Bool). length d) before),
        rest.1
            ∙ (ap (λ (b : Bool). has_ended c others || b) (step.done ∙ ap (λ (d : List Bool). ends_by c told.entry || get_or d c false) before)
            ∙ or_swap (ends_by c told.entry) (has_ended c others) (get_or old.done c false)),
      )

-- ---- what is held, each packet by a weight of its number

abbrev pub taken_weight : (ℕ → ℕ) → Entry → ℕ
taken_weight weight (Take caller number dest moment) = weight number
taken_weight weight _ = 0

abbrev pub accepted_weight : (ℕ → ℕ) → Entry → ℕ
accepted_weight weight (Claim caller number epoch tag at Taken) = weight number
accepted_weight weight _ = 0

abbrev pub held_weight : (ℕ → ℕ) → List Item → ℕ
held_weight weight items = sum_by (λ item. weight item.number) items

module _ (tells : Type 0) (suite : SuiteMeaning) (terms : Terms) (weight : ℕ → ℕ) where
  abbrev Weighs : Entry → State → State → Type 0
  Weighs entry old new = held_weight weight new.held + taken_weight weight entry ≡ held_weight weight old.held + accepted_weight weight entry

  claim_weighs : (caller number epoch : ℕ) (tag : List ℕ) (at : ℕ) (answer : Answer) (item : Item) (old new : State) (result : Result (Unit {0}) ClaimFault)
      → item.number ≡ number → answer ≡ claim_answer result → HeldAfter result item old.held new.held → Weighs (Claim caller number epoch tag at answer) old new
  claim_weighs caller number epoch tag at answer item old new result number_is is held =
      subst (λ (a : Answer). Weighs (Claim caller number epoch tag at a) old new) (sym is) (by_result result held)
    where
      same_held : new.held ≡ old.held → held_weight weight new.held + 0 ≡ held_weight weight old.held + 0
      same_held same = ap (λ (items : List Item). held_weight weight items + 0) same

      by_fault : (fault : ClaimFault) → new.held ≡ old.held → Weighs (Claim caller number epoch tag at (claim_answer (Err fault))) old new
      by_fault (claim.Retired floor) same = same_held same
      by_fault claim.Spent same = same_held same
      by_fault claim.ShardFull same = same_held same
      by_fault claim.Failed same = same_held same

      by_result : (result : Result (Unit {0}) ClaimFault) → HeldAfter result item old.held new.held → Weighs (Claim caller number epoch tag at (claim_answer result)) old new
      by_result (Ok u) moved =
          let same : weight item.number ≡ weight number = ap weight number_is in
          let alone : held_weight weight (item ∷ []) ≡ weight item.number = omega arith in
          omega (arith, sum_by-IsPermutation (λ (i : Item). weight i.number) (old.held ++ item ∷ []) new.held moved, sum_by-append (λ (i : Item). weight i.number) old.held (item ∷ []))
      by_result (Err fault) same = by_fault fault same

  unsound_weighs : (caller number epoch : ℕ) (tag : List ℕ) (at : ℕ) (answer : Answer) (old new : State) → StaysUnsound tells terms answer old new
      → Weighs (Claim caller number epoch tag at answer) old new
  unsound_weighs caller number epoch tag at answer old new stays =
      by_answer answer stays.why (ap (λ (s : State). held_weight weight s.held + 0) stays.new_is)
    where
      by_answer : (answer : Answer) → Hinders tells answer old.journal.books → held_weight weight new.held + 0 ≡ held_weight weight old.held + 0
          → Weighs (Claim caller number epoch tag at answer) old new
      by_answer Disk why same = same
      by_answer Journal why same = same
      by_answer Taken why same = absurd why
      by_answer (Retired floor) why same = absurd why
      by_answer Spent why same = absurd why
      by_answer ShardFull why same = absurd why
      by_answer RootFull why same = absurd why

  says_weighs : (told : Told) (entry : Entry) (old new : State) → Says tells suite terms told entry old new → Weighs entry old new
  says_weighs told (Claim caller number epoch tag at answer) old new says =
      ⊎_elim
      (λ (h : ClaimsItem terms says.1 answer old new). claim_weighs caller number epoch tag at answer says.1 old new h.result says.2.number_is h.answer_is h.held)
      (λ (h : StaysUnsound tells terms answer old new). unsound_weighs caller number epoch tag at answer old new h)
      says.3
  says_weighs told (Take caller number dest moment) old new says =
      let same : weight says.item.number ≡ weight number = ap weight says.number_is in
      omega (arith, sum_by_popped (λ (i : Item). weight i.number) says.item old.held new.held says.rest)
  says_weighs told (Rotate caller moment answer) old new says =
      ap (λ (items : List Item). held_weight weight items + 0)
      (⊎_elim (λ (h : Rotates terms moment answer old new). h.held) (λ (h : StaysUnsound tells terms answer old new). ap (λ (s : State). s.held) h.new_is) says)
  says_weighs told (Done who) old new says = ap (λ (s : State). held_weight weight s.held + 0) says.1
  says_weighs told (Reopened caller floor pairs) old new says = ap (λ (s : State). held_weight weight s.held + 0) says.new_is

  -- what is held weighs what was held and accepted, without what was taken out
  pub tale_weighs : (old new : State) (tale : List Told) → Tale tells suite terms old tale new
      → held_weight weight new.held + sum_by (λ told. taken_weight weight told.entry) tale
      ≡ held_weight weight old.held + sum_by (λ told. accepted_weight weight told.entry) tale
  tale_weighs old new [] unheard = ap (λ (s : State). held_weight weight s.held + 0) unheard.new_is
  tale_weighs old new (told ∷ others) tale =
      let before : held_weight weight tale.0.held ≡ held_weight weight old.held = ap (λ (s : State). held_weight weight s.held) tale.2.new_is in
      let step = says_weighs told told.entry tale.0 tale.1 tale.3 in
      let rest = tale_weighs tale.1 new others tale.4 in
      let out = sum_by-cons (λ (t : Told). taken_weight weight t.entry) told others in
      let taken = sum_by-cons (λ (t : Told). accepted_weight weight t.entry) told others in
      omega arith

-- ---- as many packets are held as were accepted and not taken out

one_each : (items : List Item) → held_weight (λ number. 1) items ≡ length items
one_each [] = refl
one_each (item ∷ items) = let first = sum_by-cons (λ (i : Item). 1) item items in let rest = one_each items in omega arith

take_one : (entry : Entry) → taken_weight (λ number. 1) entry ≡ one (is_take entry)
take_one (Claim caller number epoch tag at answer) = refl
take_one (Take caller number dest moment) = refl
take_one (Rotate caller moment answer) = refl
take_one (Done caller) = refl
take_one (Reopened caller floor pairs) = refl

accept_one : (entry : Entry) → accepted_weight (λ number. 1) entry ≡ one (is_accepted entry)
accept_one (Claim caller number epoch tag at Taken) = refl
accept_one (Claim caller number epoch tag at (Retired floor)) = refl
accept_one (Claim caller number epoch tag at Spent) = refl
accept_one (Claim caller number epoch tag at ShardFull) = refl
accept_one (Claim caller number epoch tag at RootFull) = refl
accept_one (Claim caller number epoch tag at Disk) = refl
accept_one (Claim caller number epoch tag at Journal) = refl
accept_one (Take caller number dest moment) = refl
accept_one (Rotate caller moment answer) = refl
accept_one (Done caller) = refl
accept_one (Reopened caller floor pairs) = refl

ones : (weight : Entry → ℕ) (p : Entry → Bool) → ((entry : Entry) → weight entry ≡ one (p entry)) → (tale : List Told)
    → sum_by (λ (told : Told). weight told.entry) tale ≡ length (filter (λ told. p told.entry) tale)
ones weight p each [] = refl
ones weight p each (told ∷ others) =
    let first = each told.entry in
    let rest = ones weight p each others in
    let whole = filter_one (λ t. p t.entry) told others in
    let sum = sum_by-cons (λ (t : Told). weight t.entry) told others in
    omega arith

pub tale_held : (tells : Type 0) (suite : SuiteMeaning) (terms : Terms) (old new : State) (tale : List Told) → Tale tells suite terms old tale new
    → length new.held + length (takes tale) ≡ length old.held + length (acceptances tale)
tale_held tells suite terms old new tale tells_it =
    let weighs = tale_weighs tells suite terms (λ number. 1) old new tale tells_it in
    let now = one_each new.held in
    let before = one_each old.held in
    let out = ones (taken_weight (λ number. 1)) is_take take_one tale in
    let in_ = ones (accepted_weight (λ number. 1)) is_accepted accept_one tale in
    omega arith

-- ---- a tale in two parts

pub tale_split : (tells : Type 0) (suite : SuiteMeaning) (terms : Terms) (old new : State) (first rest : List Told) → Tale tells suite terms old (first ++ rest) new
    → (mid : State) × Tale tells suite terms old first mid × Tale tells suite terms mid rest new
tale_split tells suite terms old new [] rest tale = (old, unheard_none terms.shape old, tale)
tale_split tells suite terms old new (told ∷ first) rest tale =
    let parts = tale_split tells suite terms tale.1 new first rest tale.4 in
    (parts.0, (tale.0, tale.1, tale.2, tale.3, parts.1), parts.2)
