-- The callers of a node by their numbers: which are listeners, and which are workers.
use Rattle.std.proofs.Common.{◌≡◌, inl, inr, ℕ, ◌+◌, ◌-◌, ◌*◌, ◌/◌, ◌%◌, ◌<◌, ◌==◌, refl, ap, ◌∙◌, arith, nat_lt, eq-eqb, ne_eqb, lt-ltb, le-ltb, ltb-true, ltb-false, eqb-true, if◌then◌else◌}
use Rattle.std.specs.Bool.{⊤}
use Rattle.std.proofs.lemmas.Bool.{cases_Bool, eqb-false}
use Rattle.node_run.specs.Roles.{callers_for, role_of}
use Rattle.node_run.specs.declared.roles.Role.{Role}
use Rattle.node_run.specs.declared.roles.Role.TheVariants.{Listener, Worker, Keeper, Connector, Rotator, Spare}

even_half : (n : ℕ) → (2 * n) / 2 ≡ n
even_half n = omega arith

even_rest : (n : ℕ) → (2 * n) % 2 ≡ 0
even_rest n = omega arith

module _ (listeners workers links : ℕ) where
  -- the roles of the even numbers, and of the odd ones
  abbrev even_role : ℕ → Role
  even_role place =
      if nat_lt place listeners then Listener place else if nat_lt place (listeners + workers) then Worker (place - listeners) else Spare

  abbrev odd_role : ℕ → Role
  odd_role place =
      if place == 0 then Keeper else if nat_lt place (links + 1) then Connector (place - 1) else if place == links + 1 then Rotator else Spare

  even_is : (n : ℕ) → role_of listeners workers links (2 * n) ≡ even_role n
  even_is n = rw (eq-eqb ((2 * n) % 2) 0 (even_rest n)) (ap (λ (m : ℕ). even_role m) (even_half n))

  pub is_listener : (place : ℕ) → place < listeners → role_of listeners workers links (2 * place) ≡ Listener place
  is_listener place low = even_is place ∙ first
    where
      first : even_role place ≡ Listener place
      first = rw (lt-ltb place listeners low) refl

  pub is_worker : (place : ℕ) → place < workers → role_of listeners workers links (2 * (listeners + place)) ≡ Worker place
  is_worker place low = even_is (listeners + place) ∙ second
    where
      back : listeners + place - listeners ≡ place
      back = omega arith

      second : even_role (listeners + place) ≡ Worker place
      second = rw (le-ltb (listeners + place) listeners (omega arith), lt-ltb (listeners + place) (listeners + workers) (omega arith)) (ap Worker back)

  odd_is : (n : ℕ) → role_of listeners workers links (2 * n + 1) ≡ odd_role n
  odd_is n = rw (ne_eqb ((2 * n + 1) % 2) 0 (λ none. omega arith)) (ap (λ (m : ℕ). odd_role m) (half n))
    where
      half : (n : ℕ) → (2 * n + 1) / 2 ≡ n
      half n = omega arith

  pub is_keeper : role_of listeners workers links 1 ≡ Keeper
  is_keeper = odd_is 0

  pub is_connector : (place : ℕ) → place < links → role_of listeners workers links (2 * place + 3) ≡ Connector place
  is_connector place low =
      let number : 2 * place + 3 ≡ 2 * (place + 1) + 1 = omega arith in
      ap (λ (n : ℕ). role_of listeners workers links n) number ∙ (odd_is (place + 1) ∙ connects)
    where
      back : place + 1 - 1 ≡ place
      back = omega arith

      connects : odd_role (place + 1) ≡ Connector place
      connects = rw (ne_eqb (place + 1) 0 (λ none. omega arith), lt-ltb (place + 1) (links + 1) (omega arith)) (ap Connector back)

  pub is_rotator : role_of listeners workers links (2 * links + 3) ≡ Rotator
  is_rotator =
      let number : 2 * links + 3 ≡ 2 * (links + 1) + 1 = omega arith in
      ap (λ (n : ℕ). role_of listeners workers links n) number ∙ (odd_is (links + 1) ∙ rotates)
    where
      rotates : odd_role (links + 1) ≡ Rotator
      rotates = rw (ne_eqb (links + 1) 0 (λ none. omega arith), le-ltb (links + 1) (links + 1) (omega arith), eq-eqb (links + 1) (links + 1) refl) refl

  -- the caller of a role has this number
  abbrev pub Plays : ℕ → Role → Type 0
  Plays caller (Listener place) = (caller ≡ 2 * place) × (place < listeners)
  Plays caller (Worker place) = (caller ≡ 2 * (listeners + place)) × (place < workers)
  Plays caller Keeper = caller ≡ 1
  Plays caller (Connector place) = (caller ≡ 2 * place + 3) × (place < links)
  Plays caller Rotator = caller ≡ 2 * links + 3
  Plays caller Spare = ⊤

  plays_even : (caller n : ℕ) → caller ≡ 2 * n → Plays caller (even_role n)
  plays_even caller n is =
      elim (cases_Bool (nat_lt n listeners)) [
        | inl yes' ↦ rw yes' (is, ltb-true n listeners yes')
        | inr no' ↦ elim (cases_Bool (nat_lt n (listeners + workers))) [
          | inl yes'' ↦
              let low = ltb-true n (listeners + workers) yes'' in
              let high = ltb-false n listeners no' in
              rw (no', yes'') (omega arith, omega arith)
          | inr no'' ↦ rw (no', no'') tt
        ]
      ]

  plays_odd : (caller n : ℕ) → caller ≡ 2 * n + 1 → Plays caller (odd_role n)
  plays_odd caller n is =
      elim (cases_Bool (n == 0)) [
        | inl yes' ↦
            let first = eqb-true n 0 yes' in
            rw yes' (omega arith)
        | inr no' ↦ elim (cases_Bool (nat_lt n (links + 1))) [
          | inl yes'' ↦
              let low = ltb-true n (links + 1) yes'' in
              let some = eqb-false n 0 no' in
              rw (no', yes'') (omega arith, omega arith)
          | inr no'' ↦ elim (cases_Bool (n == links + 1)) [
            | inl last ↦
                let is_last = eqb-true n (links + 1) last in
                rw (no', no'', last) (omega arith)
            | inr past ↦ rw (no', no'', past) tt
          ]
        ]
      ]

  pub plays : (caller : ℕ) → Plays caller (role_of listeners workers links caller)
  plays caller =
      elim (cases_Bool (caller % 2 == 0)) [
        | inl yes' ↦
            let even' = eqb-true (caller % 2) 0 yes' in
            rw yes' (plays_even caller (caller / 2) (omega arith))
        | inr no' ↦
            let odd' = eqb-false (caller % 2) 0 no' in
            rw no' (plays_odd caller (caller / 2) (omega arith))
      ]

  -- each of them is one of the callers
  pub listener_low : (place : ℕ) → place < listeners → 2 * place < callers_for listeners workers links
  listener_low place low = omega arith

  pub rotator_low : 2 * links + 3 < callers_for listeners workers links
  rotator_low = omega arith
