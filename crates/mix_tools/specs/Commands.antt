-- The words of the commands: which command they name, if any.
use Rattle.std.specs.Prelude.{ℕ, if◌then◌else◌, List, [], ◌∷◌, Option, Some, None, codes}
use Rattle.std.specs.Str.{bytes_eq}
use Rattle.mix_base.specs.Options.{◌>>=◌}
use Rattle.lab_text.specs.Words.{last_moment, number_in, thirty_two}
use Rattle.lab_text.specs.WordForms.{alone, suite_of}
use Rattle.mix_tools.specs.declared.commands.Command.{Command}
use Rattle.mix_tools.specs.declared.commands.Command.TheVariants.{Keys, Make, Answer, Open}

-- keys SUITE SEED EPOCH: what stands behind the first word; an epoch is below 2 ^ 60, as a moment is
abbrev pub keys_in : List (List ℕ) → Option Command
keys_in [] = None
keys_in (suite ∷ []) = None
keys_in (suite ∷ seed ∷ []) = None
keys_in (suite ∷ seed ∷ epoch ∷ []) = do
  ntru ← suite_of suite
  bytes ← thirty_two seed
  number ← number_in 0 last_moment epoch
  Some (Keys ntru bytes number)
keys_in (suite ∷ seed ∷ epoch ∷ other ∷ words) = None

-- the command that the words name
abbrev pub command_of : List (List ℕ) → Option Command
command_of [] = None
command_of (first ∷ words) =
    if bytes_eq first (codes "keys") then keys_in words
    else if bytes_eq first (codes "make") then alone Make words
    else if bytes_eq first (codes "answer") then alone Answer words
    else if bytes_eq first (codes "open") then alone Open words
    else None
