-- What an input says: a value, or where it stops to say one; and how reading it may end.
use Rattle.std.specs.Prelude.{◌≡◌, ⊤, ℕ, Option, Some, None, Result, Ok, Err}
use Rattle.lab_text.specs.declared.statuses.Status.{Status}
use Rattle.lab_text.specs.declared.statuses.Status.TheVariants.{Done, Words, Line, Key, ReadFault, WriteFault, Foreign, OtherShape, Memory, NoThread, NoKey, NoLine, Disk}

-- a value; or the number of the first line that is outside the grammar; or an epoch that has no key
pub data Outcome (A : Type 0) : Type 0 where
  Says : A → Outcome A
  Outside : (line : ℕ) → Outcome A
  Keyless : (epoch : ℕ) → Outcome A

-- one step after the other: the first that stops decides
infixl 10 ◌>>=◌
abbrev pub ◌>>=◌ : {A B : Type 0} → Outcome A → (A → Outcome B) → Outcome B
(Says value) >>= next = next value
(Outside line) >>= next = Outside line
(Keyless epoch) >>= next = Keyless epoch

-- what the line of this number says, where it is in the grammar
abbrev pub at_line : {A : Type 0} → ℕ → Option A → Outcome A
at_line number None = Outside number
at_line number (Some value) = Says value

-- what was read is what the input says; a line is named exactly where the input stops at it, and so is an epoch without
-- a key
abbrev pub Reads : {A : Type 0} → Outcome A → Result A Status → Type 0
Reads outcome (Ok value) = outcome ≡ Says value
Reads outcome (Err (Line line)) = outcome ≡ Outside line
Reads outcome (Err (NoKey epoch)) = outcome ≡ Keyless epoch
Reads outcome (Err ReadFault) = ⊤
Reads outcome (Err Memory) = ⊤
Reads outcome (Err Done) = ⊥
Reads outcome (Err Words) = ⊥
Reads outcome (Err WriteFault) = ⊥
Reads outcome (Err (Foreign node shard area at)) = ⊥
Reads outcome (Err (OtherShape node shard stored asked)) = ⊥
Reads outcome (Err (Key key)) = ⊥
Reads outcome (Err NoThread) = ⊥
Reads outcome (Err NoLine) = ⊥
Reads outcome (Err (Disk node shard)) = ⊥

-- what reading an input may end with
abbrev pub EndsReading : Status → Type 0
EndsReading (Line line) = ⊤
EndsReading ReadFault = ⊤
EndsReading Memory = ⊤
EndsReading Done = ⊥
EndsReading Words = ⊥
EndsReading WriteFault = ⊥
EndsReading (Foreign node shard area at) = ⊥
EndsReading (OtherShape node shard stored asked) = ⊥
EndsReading (NoKey epoch) = ⊥
EndsReading (Key key) = ⊥
EndsReading NoThread = ⊥
EndsReading NoLine = ⊥
EndsReading (Disk node shard) = ⊥
