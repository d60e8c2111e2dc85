-- Racks as they are later.
use Rattle.std.proofs.Common.{◌≡◌, ◌≤◌, ℕ, List, [], ◌∷◌, ◌++◌, refl, sym, ap, subst, ◌∙◌, arith}
use Rattle.replay_disk.specs.Disk.{RackState}
use Rattle.net_run.specs.Racks.{AreLater, IsLater}

pub same_later : (rack : RackState) → IsLater rack rack
same_later rack = record { arms = refl; crashes = refl; faults = omega arith }

pub even_later : (first second third : RackState) → IsLater first second → IsLater second third → IsLater first third
even_later first second third one two = record {
  arms = two.arms ∙ one.arms;
  crashes = two.crashes ∙ one.crashes;
  faults = (let a = one.faults in let b = two.faults in omega arith);
}

pub all_same : (racks : List RackState) → AreLater racks racks
all_same [] = tt
all_same (rack ∷ racks) = (same_later rack, all_same racks)

pub all_even_later : (first second third : List RackState) → AreLater first second → AreLater second third → AreLater first third
all_even_later [] [] [] one two = tt
all_even_later [] [] (z ∷ zs) one two = absurd two
all_even_later [] (y ∷ ys) third one two = absurd one
all_even_later (x ∷ xs) [] third one two = absurd one
all_even_later (x ∷ xs) (y ∷ ys) [] one two = absurd two
all_even_later (x ∷ xs) (y ∷ ys) (z ∷ zs) one two = (even_later x y z one.0 two.0, all_even_later xs ys zs one.1 two.1)

pub later_join : (old new more grown : List RackState) → AreLater old new → AreLater more grown → AreLater (old ++ more) (new ++ grown)
later_join [] [] more grown first rest = rest
later_join [] (y ∷ ys) more grown first rest = absurd first
later_join (x ∷ xs) [] more grown first rest = absurd first
later_join (x ∷ xs) (y ∷ ys) more grown first rest = (first.0, later_join xs ys more grown first.1 rest)

-- racks by their lists
pub later_as : (old was new is : List RackState) → old ≡ was → new ≡ is → AreLater was is → AreLater old new
later_as old was new is old_is new_is later =
    subst (λ (rs : List RackState). AreLater rs new) (sym old_is) (subst (λ (rs : List RackState). AreLater was rs) (sym new_is) later)
