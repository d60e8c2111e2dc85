-- Words of private functions and proofs alone: how lines are counted as they come.
use Rattle.std.specs.Prelude.{◌≡◌, ℕ, Bool, if◌then◌else◌, List, [], ◌∷◌, ◌++◌, codes, fold, refl}
use Rattle.std.specs.Fmt.{decimal}
use Rattle.std.proofs.Common.{ap, ◌∙◌, sym}
use Rattle.std.proofs.lemmas.List.Sums.{fold-append}
use Rattle.mix_base.specs.Faults.{one_more}
use Rattle.lab_text.specs.WordForms.{line_of}
use Rattle.mix_top.specs.Receiving.{TakesInTurn}
use Rattle.mix_top.specs.Report.{Line}
use Rattle.mix_top.specs.Summary.{is_handed, is_length, is_other, is_sealed, is_spent}
use Rattle.mix_top.specs.declared.storm.tally.Tally.{Tally}

-- a count with one more where a line is of its kind
abbrev pub raised_where : Bool → ℕ → ℕ
raised_where is count = if is then one_more count else count

-- the counts with a line more
abbrev pub tallied : Tally → Line → Tally
tallied tally line = record {
  handed = raised_where (is_handed line) tally.handed;
  spent = raised_where (is_spent line) tally.spent;
  sealed = raised_where (is_sealed line) tally.sealed;
  length = raised_where (is_length line) tally.length;
  other = raised_where (is_other line) tally.other;
}

-- the summary of these counts, and its words behind the first column and behind the third
abbrev pub last_words : Tally → List (List ℕ)
last_words tally = codes "length" ∷ decimal tally.length ∷ codes "other" ∷ decimal tally.other ∷ []

abbrev pub refusal_words : Tally → List (List ℕ)
refusal_words tally = codes "spent" ∷ decimal tally.spent ∷ codes "sealed" ∷ decimal tally.sealed ∷ last_words tally

abbrev pub summary_line : ℕ → Tally → List ℕ
summary_line count tally = line_of (codes "storm" ∷ decimal count ∷ codes "handed" ∷ decimal tally.handed ∷ refusal_words tally)

-- a tally takes lines in turn
pub tally_takes : TakesInTurn (λ (old new : Tally) (lines : List Line). new ≡ fold tallied old lines) (λ (old new : Tally) (lines : List Line). new ≡ fold tallied old lines)
tally_takes = record {
  nothing = λ receiver. refl;
  behind = λ old between new first others took more. behind old between new first others took more;
  front_behind = λ old between new first others took more. behind old between new first others took more;
  whole_front = λ old new lines took. took;
}
  where
    behind : (old between new : Tally) (first others : List Line) → between ≡ fold tallied old first → new ≡ fold tallied between others
        → new ≡ fold tallied old (first ++ others)
    behind old between new first others took more =
        more ∙ ap (λ (tally : Tally). fold tallied tally others) took ∙ sym (fold-append tallied old first others)
