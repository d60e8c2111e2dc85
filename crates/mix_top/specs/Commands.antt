-- The words of the commands, and what a clause says of one of them.
use Rattle.std.specs.Prelude.{◌≡◌, ℕ, List, [], ◌∷◌, Bool, true, false, IfSome, codes}
use Rattle.std.specs.Str.{bytes_eq}
use Rattle.mix_tools.specs.Commands.{command_of}
use Rattle.mix_tools.specs.declared.commands.Command.{Command}
use Rattle.mix_top.specs.Look.{look_of}
use Rattle.mix_top.specs.Storm.{storm_of}
use Rattle.mix_top.specs.declared.storm.words.Storm.{Storm}

-- whether the words are the one word `drive`
abbrev pub names_drive : List (List ℕ) → Bool
names_drive [] = false
names_drive (word ∷ []) = bytes_eq word (codes "drive")
names_drive (word ∷ other ∷ words) = false

-- a fact on a call of `drive`
abbrev pub OnDrive : List (List ℕ) → Type 0 → Type 0
OnDrive words fact = names_drive words ≡ true → fact

-- a fact on a call of `storm`, by what its words name
abbrev pub OnStorm : List (List ℕ) → (Storm → Type 0) → Type 0
OnStorm words fact = IfSome (storm_of words) fact

-- a fact on a call of `look`, by the number of shards that its words name
abbrev pub OnLook : List (List ℕ) → (ℕ → Type 0) → Type 0
OnLook words fact = IfSome (look_of words) fact

-- a fact on a call of a tool, by its command
abbrev pub OnTool : List (List ℕ) → (Command → Type 0) → Type 0
OnTool words fact = IfSome (command_of words) fact
