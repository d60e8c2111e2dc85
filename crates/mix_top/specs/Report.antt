-- The report's lines: their text, which packets they hand on, and which say that a disk failed.
use Rattle.std.specs.Prelude.{ℕ, ◌==◌, Bool, false, List, [], ◌∷◌, codes, flat_map, count_by}
use Rattle.std.specs.Fmt.{decimal}
use Rattle.sphinx_unwrap.specs.declared.faults.Refused.{Refused}
use Rattle.sphinx_unwrap.specs.declared.faults.Refused.TheVariants.{Length, Version, Sealed, Commands}
use Rattle.lab_text.specs.WordForms.{line_of}
use Rattle.mix_shard.specs.Items.{Item}
use Rattle.node_core.specs.HandOn.{hand_on_line}
use Rattle.mix_top.specs.declared.report.ReportLine.{ReportLine}
use Rattle.mix_top.specs.declared.report.ReportLine.TheVariants.{Refuse, Idle, Busy, Retired, Spent, Full, Failed, Empty, NoneDue, Unopened, Restarted, NotRotated, RootFull}

-- a line that says something, or that hands a packet on
pub data Line : Type 0 where
  Says : ReportLine → Line
  HandsOn : Item → Line

-- ---- their text

-- the word of a refusal
abbrev pub why_of : Refused → List ℕ
why_of Length = codes "length"
why_of Version = codes "version"
why_of Sealed = codes "sealed"
why_of Commands = codes "commands"

-- the words of a line; which shard a claim failed at isn't among them
abbrev pub words_of_line : ReportLine → List (List ℕ)
words_of_line (Refuse number why) = codes "refuse" ∷ decimal number ∷ why_of why ∷ []
words_of_line (Idle worker) = codes "peel" ∷ decimal worker ∷ codes "idle" ∷ []
words_of_line (Busy worker) = codes "peel" ∷ decimal worker ∷ codes "busy" ∷ []
words_of_line (Retired number floor) = codes "refuse" ∷ decimal number ∷ codes "retired" ∷ decimal floor ∷ []
words_of_line (Spent number) = codes "refuse" ∷ decimal number ∷ codes "spent" ∷ []
words_of_line (Full number) = codes "refuse" ∷ decimal number ∷ codes "full" ∷ []
words_of_line (Failed number shard) = codes "refuse" ∷ decimal number ∷ codes "disk" ∷ []
words_of_line (Empty worker) = codes "claim" ∷ decimal worker ∷ codes "empty" ∷ []
words_of_line NoneDue = codes "none" ∷ []
words_of_line (Unopened shard) = codes "open" ∷ decimal shard ∷ codes "disk" ∷ []
words_of_line (Restarted shard floor spent) =
    codes "restart" ∷ decimal shard ∷ codes "floor" ∷ decimal floor ∷ codes "spent" ∷ decimal spent ∷ []
words_of_line (NotRotated shard) = codes "rotate" ∷ decimal shard ∷ codes "disk" ∷ []
words_of_line (RootFull shard) = codes "rotate" ∷ decimal shard ∷ codes "full" ∷ []

-- the text of one line
abbrev pub line_text : Line → List ℕ
line_text (Says line) = line_of (words_of_line line)
line_text (HandsOn item) = hand_on_line item

-- the text of a report
abbrev pub text : List Line → List ℕ
text lines = flat_map line_text lines

-- ---- what they hand on

-- the pair of epoch and replay tag of a packet
abbrev pub pair_of : Item → ℕ × List ℕ
pair_of item = (item.epoch, item.tag)

abbrev pub handed_by : Line → List (ℕ × List ℕ)
handed_by (Says line) = []
handed_by (HandsOn item) = pair_of item ∷ []

-- the pairs that a report hands on, in its order
abbrev pub handed : List Line → List (ℕ × List ℕ)
handed lines = flat_map handed_by lines

-- ---- which say that a disk failed

-- that of this shard
abbrev pub says_failed : ℕ → ReportLine → Bool
says_failed shard (Failed number other) = other == shard
says_failed shard (Unopened other) = other == shard
says_failed shard (NotRotated other) = other == shard
says_failed shard _ = false

abbrev pub is_disk_line : ℕ → Line → Bool
is_disk_line shard (Says line) = says_failed shard line
is_disk_line shard (HandsOn item) = false

-- how many of a report say so
abbrev pub disk_lines : ℕ → List Line → ℕ
disk_lines shard lines = count_by (is_disk_line shard) lines
