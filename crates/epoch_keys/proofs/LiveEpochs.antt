-- The list of live epochs has each epoch that is live, and no other: beside the current one only one neighbour can be.
use Rattle.std.proofs.Common.{◌≡◌, ℕ, zero, suc, ◌+◌, ◌-◌, ◌*◌, ◌%◌, ◌<◌, ◌≤◌, ◌&&◌, ◌↔◌, nat_le, nat_lt, Bool, true, false, IsTrue, [], ◌∷◌, ◌⊎◌, inl, inr, refl, sym, subst, arith}
use Rattle.std.specs.List.{Contains, filter}
use Rattle.std.proofs.Math.Nat.{div-add-mod, mod-lt, mul-le-mul_right}
use Rattle.std.specs.Cmp.Derive.{both_true}
use Rattle.std.proofs.lemmas.Bool.{cases_lt, cases_eq, ltb-true, lt-ltb, leb-true, le-leb}
use Rattle.std.proofs.lemmas.List.Elements.{filter_passes, All-contains}
use Rattle.mix_base.proofs.Members.{Contains-cons_cases, Contains-filter, Contains-head, Contains-tail}
use Rattle.epoch_keys.specs.Epochs.{EpochTimes, InRange, is_live, current, neighbours, live_epochs, least_live}

-- a moment lies in its current epoch
in_current : (times : EpochTimes) (moment : ℕ) → InRange times → (current times moment * times.epoch ≤ moment) × (moment < current times moment * times.epoch + times.epoch)
in_current times moment range =
    let whole = div-add-mod moment times.epoch in
    let rest : moment % times.epoch < times.epoch = mod-lt moment (omega (arith, range.low)) in
    (omega (arith, whole), omega (arith, whole, rest))

-- a grace is shorter than an epoch
short_grace : (times : EpochTimes) → InRange times → times.grace < times.epoch
short_grace times range = omega (arith, range.low, range.quarter)

both_parts : (a b : Bool) → (a && b) ≡ true → (a ≡ true) × (b ≡ true)
both_parts true b both = (refl, both)
both_parts false b both = (both, absurd (cc))

-- what it is to be live, as facts on numbers
live_facts : (times : EpochTimes) (epoch moment : ℕ) → is_live times epoch moment ≡ true → (epoch * times.epoch ≤ moment + times.grace) × (moment < (epoch + 1) * times.epoch + times.grace)
live_facts times epoch moment live =
    let both = both_parts (nat_le (epoch * times.epoch) (moment + times.grace)) (nat_lt moment ((epoch + 1) * times.epoch + times.grace)) live in
    (leb-true _ _ both.0, ltb-true _ _ both.1)

facts_live : (times : EpochTimes) (epoch moment : ℕ) → epoch * times.epoch ≤ moment + times.grace → moment < (epoch + 1) * times.epoch + times.grace → is_live times epoch moment ≡ true
facts_live times epoch moment begun lasts = both_true (le-leb _ _ begun) (lt-ltb _ _ lasts)

is_false : (b : Bool) → (b ≡ true → ⊥) → b ≡ false
is_false true never = absurd (never refl)
is_false false never = refl

-- what it is not to be live
not_begun : (times : EpochTimes) (epoch moment : ℕ) → moment + times.grace < epoch * times.epoch → is_live times epoch moment ≡ false
not_begun times epoch moment early = is_false _ (λ live. omega (arith, early, (live_facts times epoch moment live).0))

long_ended : (times : EpochTimes) (epoch moment : ℕ) → (epoch + 1) * times.epoch + times.grace ≤ moment → is_live times epoch moment ≡ false
long_ended times epoch moment late = is_false _ (λ live. omega (arith, late, (live_facts times epoch moment live).1))

-- the current epoch is live
current_live : (times : EpochTimes) (moment : ℕ) → InRange times → is_live times (current times moment) moment ≡ true
current_live times moment range =
    let lies = in_current times moment range in
    facts_live times (current times moment) moment (omega (arith, lies.0)) (omega (arith, lies.1))

-- an epoch that is live is at most one below the current one, and at most one above it
not_far_below : (times : EpochTimes) (epoch moment : ℕ) → InRange times → is_live times epoch moment ≡ true → current times moment ≤ epoch + 1
not_far_below times epoch moment range live =
    elim (cases_lt (epoch + 1) (current times moment)) [
      | inl below ↦
          let far : (epoch + 2) * times.epoch ≤ current times moment * times.epoch = mul-le-mul_right times.epoch (omega (arith, below)) in
          absurd (omega (arith, far, (in_current times moment range).0, (live_facts times epoch moment live).1, short_grace times range))
      | inr near ↦ near
    ]

not_far_above : (times : EpochTimes) (epoch moment : ℕ) → InRange times → is_live times epoch moment ≡ true → epoch ≤ current times moment + 1
not_far_above times epoch moment range live =
    elim (cases_lt (current times moment + 1) epoch) [
      | inl above ↦
          let far : (current times moment + 2) * times.epoch ≤ epoch * times.epoch = mul-le-mul_right times.epoch (omega (arith, above)) in
          absurd (omega (arith, far, (in_current times moment range).1, (live_facts times epoch moment live).0, short_grace times range))
      | inr near ↦ near
    ]

-- the epoch before another, and the one after it, are its neighbours
neighbour_listed : (middle epoch : ℕ) → (epoch + 1 ≡ middle) ⊎ (middle + 1 ≡ epoch) → Contains (neighbours middle) epoch
neighbour_listed zero epoch (inl before) = absurd (omega (arith, before))
neighbour_listed zero epoch (inr after) =
    let same : 1 ≡ epoch = omega (arith, after) in subst (λ (e : ℕ). Contains (1 ∷ []) e) same (Contains-head 1 [])
neighbour_listed (suc middle) epoch (inl before) =
    let same : middle ≡ epoch = omega (arith, before) in
    subst (λ (e : ℕ). Contains (middle ∷ suc (suc middle) ∷ []) e) same (Contains-head middle (suc (suc middle) ∷ []))
neighbour_listed (suc middle) epoch (inr after) =
    let same : suc (suc middle) ≡ epoch = omega (arith, after) in
    subst (λ (e : ℕ). Contains (middle ∷ suc (suc middle) ∷ []) e) same
    (Contains-tail middle (suc (suc middle) ∷ []) (suc (suc middle)) (Contains-head (suc (suc middle)) []))

-- a live epoch other than the current one is a neighbour of it
near : (times : EpochTimes) (epoch moment : ℕ) → InRange times → is_live times epoch moment ≡ true → (epoch ≡ current times moment → ⊥)
    → (epoch + 1 ≡ current times moment) ⊎ (current times moment + 1 ≡ epoch)
near times epoch moment range live other =
    let below = not_far_below times epoch moment range live in
    let above = not_far_above times epoch moment range live in
    elim (cases_lt epoch (current times moment)) [
      | inl less ↦ inl (omega (arith, less, below))
      | inr more ↦ elim (cases_lt (current times moment) epoch) [
        | inl greater ↦ inr (omega (arith, greater, above))
        | inr not_greater ↦ absurd (other (omega (arith, more, not_greater)))
      ]
    ]

-- the epochs of the list are those that are live
pub live_exactly : (times : EpochTimes) (moment : ℕ) → InRange times → (epoch : ℕ) → IsTrue (is_live times epoch moment) ↔ Contains (live_epochs times moment) epoch
live_exactly times moment range epoch =
    let test : ℕ → Bool = λ e. is_live times e moment in
    let middle : ℕ = current times moment in (
      λ live. elim (cases_eq middle epoch) [
        | inl same ↦ subst (λ (e : ℕ). Contains (live_epochs times moment) e) same (Contains-head middle (filter test (neighbours middle)))
        | inr other ↦
            Contains-tail middle (filter test (neighbours middle)) epoch
            (Contains-filter test (neighbours middle) epoch
            (neighbour_listed middle epoch (near times epoch moment range live (λ same. other (sym same)))) live)
      ],
      λ listed. elim (Contains-cons_cases middle (filter test (neighbours middle)) epoch listed) [
        | inl same ↦ subst (λ (e : ℕ). is_live times e moment ≡ true) same (current_live times moment range)
        | inr later ↦ All-contains (λ (e : ℕ). test e ≡ true) (filter test (neighbours middle)) epoch (filter_passes test (neighbours middle)) later
      ],
    )

-- of two entries, those that pass a test
keeps_first : (test : ℕ → Bool) (a b : ℕ) → test a ≡ true → test b ≡ false → filter test (a ∷ b ∷ []) ≡ a ∷ []
keeps_first test a b first second = rw (first, second)

keeps_second : (test : ℕ → Bool) (a b : ℕ) → test a ≡ false → test b ≡ true → filter test (a ∷ b ∷ []) ≡ b ∷ []
keeps_second test a b first second = rw (first, second)

keeps_neither : (test : ℕ → Bool) (a b : ℕ) → test a ≡ false → test b ≡ false → filter test (a ∷ b ∷ []) ≡ []
keeps_neither test a b first second = rw (first, second)

-- the moment lies in this epoch
abbrev LiesIn : EpochTimes → ℕ → ℕ → Type 0
LiesIn times epoch moment = (epoch * times.epoch ≤ moment) × (moment < epoch * times.epoch + times.epoch)

-- which neighbour is live: that before within the grace of its end, that after within the grace of its beginning
before_live : (times : EpochTimes) (middle moment : ℕ) → InRange times → LiesIn times middle moment → 0 < middle
    → moment < middle * times.epoch + times.grace → filter (λ e. is_live times e moment) (neighbours middle) ≡ (middle - 1) ∷ []
before_live times zero moment range lies positive short = absurd (omega (arith, positive))
before_live times (suc before) moment range lies positive short =
    let small = short_grace times range in
    let same : suc before - 1 ≡ before = omega arith in
    rw same (keeps_first (λ e. is_live times e moment) before (suc (suc before))
    (facts_live times before moment (omega (arith, lies.0)) (omega (arith, short)))
    (not_begun times (suc (suc before)) moment (omega (arith, short, small, range.quarter, range.low))))

after_live : (times : EpochTimes) (middle moment : ℕ) → InRange times → LiesIn times middle moment
    → ((0 < middle) × (moment < middle * times.epoch + times.grace) → ⊥) → middle * times.epoch + times.epoch ≤ moment + times.grace
    → filter (λ e. is_live times e moment) (neighbours middle) ≡ (middle + 1) ∷ []
after_live times zero moment range lies late soon =
    rw (facts_live times 1 moment (omega (arith, soon)) (omega (arith, lies.1)))
after_live times (suc before) moment range lies late soon =
    let ended : suc before * times.epoch + times.grace ≤ moment =
    elim (cases_lt moment (suc before * times.epoch + times.grace)) [ inl short ↦ absurd (late (omega arith, short)) | inr long ↦ long ] in
    let same : suc before + 1 ≡ suc (suc before) = omega arith in
    rw same (keeps_second (λ e. is_live times e moment) before (suc (suc before))
    (long_ended times before moment (omega (arith, ended)))
    (facts_live times (suc (suc before)) moment (omega (arith, soon)) (omega (arith, lies.1))))

alone_live : (times : EpochTimes) (middle moment : ℕ) → InRange times → LiesIn times middle moment
    → ((0 < middle) × (moment < middle * times.epoch + times.grace) → ⊥) → moment + times.grace < middle * times.epoch + times.epoch
    → filter (λ e. is_live times e moment) (neighbours middle) ≡ []
alone_live times zero moment range lies late early =
    rw (not_begun times 1 moment (omega (arith, early)))
alone_live times (suc before) moment range lies late early =
    let ended : suc before * times.epoch + times.grace ≤ moment =
    elim (cases_lt moment (suc before * times.epoch + times.grace)) [ inl short ↦ absurd (late (omega arith, short)) | inr long ↦ long ] in
    keeps_neither (λ e. is_live times e moment) before (suc (suc before))
    (long_ended times before moment (omega (arith, ended)))
    (not_begun times (suc (suc before)) moment (omega (arith, early)))

-- the whole list, by which neighbour is live
pub with_before : (times : EpochTimes) (moment : ℕ) → InRange times → 0 < current times moment
    → moment < current times moment * times.epoch + times.grace → current times moment ∷ (current times moment - 1) ∷ [] ≡ live_epochs times moment
with_before times moment range positive short =
    let middle : ℕ = current times moment in
    rw (before_live times middle moment range (in_current times moment range) positive short)

pub with_after : (times : EpochTimes) (moment : ℕ) → InRange times
    → ((0 < current times moment) × (moment < current times moment * times.epoch + times.grace) → ⊥)
    → current times moment * times.epoch + times.epoch ≤ moment + times.grace → current times moment ∷ (current times moment + 1) ∷ [] ≡ live_epochs times moment
with_after times moment range late soon =
    let middle : ℕ = current times moment in
    rw (after_live times middle moment range (in_current times moment range) late soon)

pub alone : (times : EpochTimes) (moment : ℕ) → InRange times
    → ((0 < current times moment) × (moment < current times moment * times.epoch + times.grace) → ⊥)
    → moment + times.grace < current times moment * times.epoch + times.epoch → current times moment ∷ [] ≡ live_epochs times moment
alone times moment range late early =
    let middle : ℕ = current times moment in
    rw (alone_live times middle moment range (in_current times moment range) late early)

-- ---- the least live epoch

-- where an epoch ends before a moment less the grace, by how far
least_within : (times : EpochTimes) (moment : ℕ) → InRange times
    → (least_live times moment * times.epoch ≤ moment - times.grace) × (moment - times.grace < least_live times moment * times.epoch + times.epoch)
least_within times moment range =
    let whole = div-add-mod (moment - times.grace) times.epoch in
    let rest : (moment - times.grace) % times.epoch < times.epoch = mod-lt (moment - times.grace) (omega (arith, range.low)) in
    (omega (arith, whole), omega (arith, whole, rest))

-- a live epoch is the least one or the one above it
pub near_least : (times : EpochTimes) (moment : ℕ) → InRange times → (epoch : ℕ) → Contains (live_epochs times moment) epoch
    → (least_live times moment ≤ epoch) × (epoch ≤ least_live times moment + 1)
near_least times moment range epoch listed =
    let facts = live_facts times epoch moment ((live_exactly times moment range epoch).1 listed) in
    let lies = least_within times moment range in (
      elim (cases_lt epoch (least_live times moment)) [
        | inl below ↦
            let far : (epoch + 1) * times.epoch ≤ least_live times moment * times.epoch = mul-le-mul_right times.epoch (omega (arith, below)) in
            absurd (omega (arith, far, lies.0, facts.1, range.low))
        | inr least ↦ least
      ],
      elim (cases_lt (least_live times moment + 1) epoch) [
        | inl above ↦
            let far : (least_live times moment + 2) * times.epoch ≤ epoch * times.epoch = mul-le-mul_right times.epoch (omega (arith, above)) in
            absurd (omega (arith, far, lies.1, facts.0, range.low, range.quarter))
        | inr close ↦ close
      ],
    )
