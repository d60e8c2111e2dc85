-- What a line reader has before it, and what it gives.
use Rattle.std.specs.Prelude.{◌≡◌, ℕ, ◌-◌, ◌≤◌, List, [], ◌∷◌, ◌++◌, take, drop}
use Rattle.std.specs.Prelude.{Option, Some, IfSome, IsSome, IsSomeAnd, option_map}
use Rattle.mix_base.specs.declared.reading.Source.{Ghosts}
use Rattle.lab_text.specs.Lines.{ScriptLine, Text, lines_from}
use Rattle.lab_text.specs.declared.lines.LineReader.{LineReader}

-- the source that it reads
abbrev pub source_of : {I : Type 0} {G : Ghosts I} → LineReader I G → I
source_of reader = reader.source

-- how many lines it has given
abbrev pub lines_given : {I : Type 0} {G : Ghosts I} → LineReader I G → ℕ
lines_given reader = reader.number

-- the bytes that it has read from its source and not yet given as lines
abbrev pub unread : {I : Type 0} {G : Ghosts I} → LineReader I G → List ℕ
unread reader = reader.line.items ++ take (reader.end - reader.place) (drop reader.place reader.block.items)

-- the lines to come, where the source tells what is left
abbrev pub coming : {I : Type 0} {G : Ghosts I} → LineReader I G → Option (List ScriptLine)
coming {G} reader = option_map (λ rest. lines_from reader.used (unread reader ++ rest)) (G.left reader.source)

-- a line was given: it came first, and the others are still to come
abbrev pub GivesLine : Option (List ScriptLine) → Option (List ScriptLine) → List ℕ → Type 0
GivesLine before after line = IfSome before (λ lines. IsSomeAnd after (λ rest. lines ≡ Text line ∷ rest))

-- the lines to come are as before, where the source told them before
abbrev pub Stays : Option (List ScriptLine) → Option (List ScriptLine) → Type 0
Stays before after = IfSome before (λ lines. after ≡ Some lines)

-- the source is at its end, where it told before what was left
abbrev pub ReachesEnd : Option (List ℕ) → Option (List ℕ) → Type 0
ReachesEnd before after = IfSome before (λ _. after ≡ Some [])

-- what a call of the reader owes of its source: it tells what is left where it told before, its count of faults
-- doesn't fall, and it is the same reference
pub record SourceGoesOn {I : Type 0} {G : Ghosts I} (old new : LineReader I G) : Type 0 where
  pub tells : IfSome (G.left (source_of old)) (λ _. IsSome (G.left (source_of new)))
  pub faults : G.faults (source_of old) ≤ G.faults (source_of new)
  pub same_reference : G.reference (source_of new) ≡ G.reference (source_of old)
