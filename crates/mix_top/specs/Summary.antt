-- The summary of a storm: counts of the lines of its report.
use Rattle.std.specs.Prelude.{ℕ, Bool, true, false, not, ◌||◌, List, [], ◌∷◌, codes, count_by}
use Rattle.std.specs.Fmt.{decimal}
use Rattle.sphinx_unwrap.specs.declared.faults.Refused.TheVariants.{Length, Sealed}
use Rattle.lab_text.specs.WordForms.{line_of}
use Rattle.mix_top.specs.Report.{Line, Says, HandsOn}
use Rattle.mix_top.specs.declared.report.ReportLine.TheVariants.{Refuse, Spent, Empty, NoneDue, Restarted}

abbrev pub is_handed : Line → Bool
is_handed (HandsOn item) = true
is_handed (Says line) = false

-- a refusal with this word
abbrev pub is_spent : Line → Bool
is_spent (Says (Spent number)) = true
is_spent _ = false

abbrev pub is_sealed : Line → Bool
is_sealed (Says (Refuse number Sealed)) = true
is_sealed _ = false

abbrev pub is_length : Line → Bool
is_length (Says (Refuse number Length)) = true
is_length _ = false

-- `none`, `claim W empty` and `restart`, which no number counts
abbrev pub is_uncounted : Line → Bool
is_uncounted (Says NoneDue) = true
is_uncounted (Says (Empty worker)) = true
is_uncounted (Says (Restarted shard floor spent)) = true
is_uncounted _ = false

abbrev pub is_other : Line → Bool
is_other line = not (is_handed line || is_spent line || is_sealed line || is_length line || is_uncounted line)

-- storm N handed H spent S sealed L length G other O
abbrev pub summary : ℕ → List Line → List ℕ
summary count lines = line_of (
    codes "storm" ∷ decimal count
    ∷ codes "handed" ∷ decimal (count_by is_handed lines)
    ∷ codes "spent" ∷ decimal (count_by is_spent lines)
    ∷ codes "sealed" ∷ decimal (count_by is_sealed lines)
    ∷ codes "length" ∷ decimal (count_by is_length lines)
    ∷ codes "other" ∷ decimal (count_by is_other lines) ∷ [])
