-- Laws of sinks that lines are written to and of tallies, which the ghost members of these cite.
use Rattle.std.proofs.Common.{◌≡◌, ℕ, ◌+◌, List, [], ◌∷◌, ◌++◌, length, take, refl, ap, ◌∙◌, sym, append_assoc, Option, Some, None}
use Rattle.std.proofs.Math.Seq.{take-append-add, take-length}
use Rattle.std.proofs.lemmas.List.{append-nil}
use Rattle.std.proofs.lemmas.Grind.{flat_map-append}
use Rattle.lab_text.specs.Given.{Gave}
use Rattle.mix_top.specs.Receiving.{GaveFront, GaveText, TakesInTurn}
use Rattle.mix_top.specs.Report.{Line, line_text, text}

-- ---- what a sink was given

pub gave_nothing : (given : Option (List ℕ)) → Gave given given (λ bytes. bytes ≡ [])
gave_nothing None = tt
gave_nothing (Some first) = ([], sym (append-nil first), refl)

pub gave_weaker : (before after : Option (List ℕ)) (P Q : List ℕ → Type 0) → Gave before after P → ((bytes : List ℕ) → P bytes → Q bytes) → Gave before after Q
gave_weaker None after P Q gave weaker = tt
gave_weaker (Some first) None P Q gave weaker = gave
gave_weaker (Some first) (Some last) P Q (bytes, behind, holds) weaker = (bytes, behind, weaker bytes holds)

pub gave_then : (before between after : Option (List ℕ)) (P Q R : List ℕ → Type 0) → Gave before between P → Gave between after Q
    → ((a b : List ℕ) → P a → Q b → R (a ++ b)) → Gave before after R
gave_then None between after P Q R first second joined = tt
gave_then (Some start) None after P Q R first second joined = absurd first
gave_then (Some start) (Some middle) None P Q R first second joined = absurd second
gave_then (Some start) (Some middle) (Some last) P Q R (a, at_a, is_a) (b, at_b, is_b) joined =
    (a ++ b, at_b ∙ ap (λ (bytes : List ℕ). bytes ++ b) at_a ∙ append_assoc start a b, joined a b is_a is_b)

text-append : (said lines : List Line) → text (said ++ lines) ≡ text said ++ text lines
text-append said lines = flat_map-append line_text said lines

-- a whole text is a front of itself, and a front behind a whole one is a front of both
whole_text : (said : List Line) (bytes : List ℕ) → bytes ≡ text said → (count : ℕ) × (bytes ≡ take count (text said))
whole_text said bytes same = (length (text said), same ∙ sym (take-length (text said)))

joined_whole : (said lines : List Line) (a b : List ℕ) → a ≡ text said → b ≡ text lines → a ++ b ≡ text (said ++ lines)
joined_whole said lines a b first second =
    ap (λ (bytes : List ℕ). bytes ++ b) first ∙ ap (λ (bytes : List ℕ). text said ++ bytes) second ∙ sym (text-append said lines)

joined_front : (said lines : List Line) (a b : List ℕ) → a ≡ text said → (count : ℕ) × (b ≡ take count (text lines))
    → (count : ℕ) × (a ++ b ≡ take count (text (said ++ lines)))
joined_front said lines a b whole (count, front) = (
  length (text said) + count,
  ap (λ (bytes : List ℕ). bytes ++ b) whole ∙ ap (λ (bytes : List ℕ). text said ++ bytes) front ∙ sym (take-append-add (text said) (text lines) count)
      ∙ ap (take (length (text said) + count)) (sym (text-append said lines)),
)

-- so a sink takes lines in turn
pub sink_takes : {R : Type 0} (given : R → Option (List ℕ))
    → TakesInTurn (λ old new lines. GaveText (given old) (given new) lines) (λ old new lines. GaveFront (given old) (given new) lines)
sink_takes given = record {
  nothing = λ receiver. gave_nothing (given receiver);
  behind = λ old between new first others took more. gave_then (given old) (given between) (given new) (λ bytes. bytes ≡ text first) (λ bytes. bytes ≡ text others)
      (λ bytes. bytes ≡ text (first ++ others)) took more (joined_whole first others);
  front_behind = λ old between new first others took more. gave_then (given old) (given between) (given new) (λ bytes. bytes ≡ text first)
      (λ bytes. (count : ℕ) × (bytes ≡ take count (text others))) (λ bytes. (count : ℕ) × (bytes ≡ take count (text (first ++ others)))) took more
      (joined_front first others);
  whole_front = λ old new lines took. gave_weaker (given old) (given new) (λ bytes. bytes ≡ text lines)
      (λ bytes. (count : ℕ) × (bytes ≡ take count (text lines))) took (whole_text lines);
}
