-- The numbers that listeners give: of different listeners they differ, and those of one rise.
use Rattle.std.proofs.Common.{◌≡◌, ℕ, ◌+◌, ◌*◌, ◌/◌, ◌%◌, ◌<◌, List, arith, add-mul, div-add-mod', mul-lt-mul_of_pos_right}
use Rattle.std.specs.Prelude.{AllPairs}
use Rattle.std.proofs.lemmas.Nat.{same_from_place}
use Rattle.node_actors.specs.Listening.{InTurn, number_at}
use Rattle.node_actors.specs.declared.actors.listening.Taken.{Taken}
use Rattle.node_run.proofs.Elements.{pairs_places}

-- a number says whose it is, and which of his packets has it
pub number_same : (n k k' j j' : ℕ) → k < n → k' < n → number_at n k j ≡ number_at n k' j' → (j ≡ j') × (k ≡ k')
number_same n k k' j j' low low' same = same_from_place j k j' k' n low low' (omega arith)

-- numbers of one remainder are of one listener
pub class_same : (n k k' j j' : ℕ) → k < n → k' < n → number_at n k j % n ≡ number_at n k' j' % n → k ≡ k'
class_same n k k' j j' low low' same =
    let x = number_at n k j in
    let y = number_at n k' j' in
    let q = x / n in
    let q' = y / n in
    let first : q * n + x % n ≡ k + 1 + j * n = div-add-mod' x n in
    let second : q' * n + y % n ≡ k' + 1 + j' * n = div-add-mod' y n in
    let left : (j + q') * n ≡ j * n + q' * n = add-mul j q' n in
    let right : (j' + q) * n ≡ j' * n + q * n = add-mul j' q n in
    (same_from_place (j + q') k (j' + q) k' n low low' (omega arith)).1

module _ (n k workers : ℕ) (some : 0 < n) (course : List Taken) (turns : InTurn n k workers course) where
  -- those of one listener rise
  pub course_rises : AllPairs (λ (t u : Taken). t.number < u.number) course
  course_rises = pairs_places (λ (t u : Taken). t.number < u.number) course (λ i j t u low is is'.
      let first : t.number ≡ number_at n k i = (turns i t is).number in
      let second : u.number ≡ number_at n k j = (turns j u is').number in
      let less : i * n < j * n = mul-lt-mul_of_pos_right low some in
      omega arith)
