-- Of what kind a caller is, by its number.
use Rattle.std.proofs.Common.{◌≡◌, ℕ, ◌+◌, ◌*◌, ◌<◌, ap, ◌∙◌, arith}
use Rattle.node_run.specs.Roles.{role_of}
use Rattle.node_run.specs.declared.roles.Role.{Role}
use Rattle.node_run.specs.declared.roles.Role.TheVariants.{Listener, Worker, Keeper, Connector, Rotator, Spare}
use Rattle.node_run.proofs.Playing.{Plays, is_connector, is_worker, plays}

-- the kinds by number
abbrev pub kind : Role → ℕ
kind (Listener place) = 0
kind (Worker place) = 1
kind Keeper = 2
kind (Connector place) = 3
kind Rotator = 4
kind Spare = 5

module _ (listeners workers links : ℕ) where
  abbrev role : ℕ → Role
  role c = role_of listeners workers links c

  pub worker_role : (w : ℕ) → w < workers → role (2 * listeners + 2 * w) ≡ Worker w
  worker_role w low =
      let same : 2 * listeners + 2 * w ≡ 2 * (listeners + w) = omega arith in
      ap role same ∙ is_worker listeners workers links w low

  pub connector_role : (c : ℕ) → c < links → role (3 + 2 * c) ≡ Connector c
  connector_role c low =
      let same : 3 + 2 * c ≡ 2 * c + 3 = omega arith in
      ap role same ∙ is_connector listeners workers links c low

  -- ---- who is of a kind

  pub listener_place : (c : ℕ) → kind (role c) ≡ 0 → (k : ℕ) × (k < listeners) × (c ≡ 0 + 2 * k)
  listener_place c is = by_role (role c) (plays listeners workers links c) is
    where
      by_role : (r : Role) → Plays listeners workers links c r → kind r ≡ 0 → (k : ℕ) × (k < listeners) × (c ≡ 0 + 2 * k)
      by_role (Listener place) at is = (place, at.1, omega (arith, at.0))
      by_role (Worker place) at is = absurd (omega (arith, is))
      by_role Keeper at is = absurd (omega (arith, is))
      by_role (Connector place) at is = absurd (omega (arith, is))
      by_role Rotator at is = absurd (omega (arith, is))
      by_role Spare at is = absurd (omega (arith, is))

  pub worker_place : (c : ℕ) → kind (role c) ≡ 1 → (w : ℕ) × (w < workers) × (c ≡ 2 * listeners + 2 * w)
  worker_place c is = by_role (role c) (plays listeners workers links c) is
    where
      by_role : (r : Role) → Plays listeners workers links c r → kind r ≡ 1 → (w : ℕ) × (w < workers) × (c ≡ 2 * listeners + 2 * w)
      by_role (Listener place) at is = absurd (omega (arith, is))
      by_role (Worker place) at is = (place, at.1, omega (arith, at.0))
      by_role Keeper at is = absurd (omega (arith, is))
      by_role (Connector place) at is = absurd (omega (arith, is))
      by_role Rotator at is = absurd (omega (arith, is))
      by_role Spare at is = absurd (omega (arith, is))

  pub connector_place : (c : ℕ) → kind (role c) ≡ 3 → (k : ℕ) × (k < links) × (c ≡ 3 + 2 * k)
  connector_place c is = by_role (role c) (plays listeners workers links c) is
    where
      by_role : (r : Role) → Plays listeners workers links c r → kind r ≡ 3 → (k : ℕ) × (k < links) × (c ≡ 3 + 2 * k)
      by_role (Listener place) at is = absurd (omega (arith, is))
      by_role (Worker place) at is = absurd (omega (arith, is))
      by_role Keeper at is = absurd (omega (arith, is))
      by_role (Connector place) at is = (place, at.1, omega (arith, at.0))
      by_role Rotator at is = absurd (omega (arith, is))
      by_role Spare at is = absurd (omega (arith, is))

  pub keeper_place : (c : ℕ) → kind (role c) ≡ 2 → c ≡ 1
  keeper_place c is = by_role (role c) (plays listeners workers links c) is
    where
      by_role : (r : Role) → Plays listeners workers links c r → kind r ≡ 2 → c ≡ 1
      by_role (Listener place) at is = absurd (omega (arith, is))
      by_role (Worker place) at is = absurd (omega (arith, is))
      by_role Keeper at is = at
      by_role (Connector place) at is = absurd (omega (arith, is))
      by_role Rotator at is = absurd (omega (arith, is))
      by_role Spare at is = absurd (omega (arith, is))
