-- The logs of the begun epochs: of which epochs they are, and how many.
use Rattle.std.proofs.Common.{◌≡◌, ℕ, ◌≤◌, None, List, [], ◌∷◌, length, map, sym, subst, ◌∙◌, arith}
use Rattle.std.proofs.lemmas.List.{length-map}
use Rattle.spent_store.specs.Books.{EpochLog, amiss}
use Rattle.spent_store.specs.Root.{AreNear, floor_of, begun_of}
use Rattle.spent_store.specs.declared.root.RootRecord.{RootRecord}
use Rattle.spent_store.proofs.NearLaws.{begun_near}

-- of the floor and the epoch above it alone
pub logs_near : (roots : List RootRecord) (begun : List ℕ) (floor : ℕ) (logs : List EpochLog) → amiss roots ≡ None → floor ≡ floor_of roots → begun ≡ begun_of roots
    → map (λ (log : EpochLog). log.epoch) logs ≡ begun → AreNear floor (map (λ (log : EpochLog). log.epoch) logs)
logs_near roots begun floor logs in_order is_floor is_begun epochs =
    subst (λ (e : List ℕ). AreNear floor e) (sym (epochs ∙ is_begun)) (subst (λ (f : ℕ). AreNear f (begun_of roots)) (sym is_floor) (begun_near roots in_order))

pub near_two : (floor : ℕ) (epochs : List ℕ) → AreNear floor epochs → length epochs ≤ 2
near_two floor [] near = omega arith
near_two floor (a ∷ []) near = omega arith
near_two floor (a ∷ b ∷ []) near = omega arith
near_two floor (a ∷ b ∷ c ∷ others) near = absurd near

-- at most two
pub logs_two : (floor : ℕ) (logs : List EpochLog) → AreNear floor (map (λ (log : EpochLog). log.epoch) logs) → length logs ≤ 2
logs_two floor logs near = omega (arith, near_two floor (map (λ (log : EpochLog). log.epoch) logs) near, length-map logs (λ (log : EpochLog). log.epoch))
