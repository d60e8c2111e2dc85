-- What a fault says: the relation between what words or a line say and the result of reading them. Want of memory may
-- come at any time, and then nothing is said.
use Rattle.std.specs.Prelude.{◌≡◌, ⊤, ℕ, ◌+◌, List, [], ◌∷◌, Option, Some, None, IfSome, Result, Ok, Err}
use Rattle.lab_text.specs.Lines.{ScriptLine, TooLong}
use Rattle.lab_text.specs.declared.faults.LineFault.{LineFault}
use Rattle.lab_text.specs.declared.faults.LineFault.TheVariants as line_faults
use Rattle.lab_text.specs.declared.faults.WordFault.{WordFault}
use Rattle.lab_text.specs.declared.faults.WordFault.TheVariants as word_faults

-- words are outside the grammar exactly where they say nothing
abbrev pub IsUnsaid : {A : Type 0} → Option A → WordFault → Type 0
IsUnsaid said word_faults.Outside = said ≡ None
IsUnsaid said word_faults.Memory = ⊤

-- what was read, seen by `view`, is what the words say
abbrev pub ReadsAs : {X A : Type 0} → (X → A) → Option A → Result X WordFault → Type 0
ReadsAs view said (Ok value) = said ≡ Some (view value)
ReadsAs view said (Err fault) = IsUnsaid said fault

-- the same where the result is seen as it is
abbrev pub ReadsWords : {A : Type 0} → Option A → Result A WordFault → Type 0
ReadsWords said result = ReadsAs (λ value. value) said result

-- the fault of the line of this number
abbrev pub fault_at : ℕ → WordFault → LineFault
fault_at number word_faults.Outside = line_faults.BadLine number
fault_at number word_faults.Memory = line_faults.Memory

-- what was read of the line of this number is what it says; it is bad exactly where it says nothing in the grammar
abbrev pub ReadsLine : {A : Type 0} → Option A → ℕ → Result A LineFault → Type 0
ReadsLine said number (Ok value) = said ≡ Some value
ReadsLine said number (Err (line_faults.BadLine bad)) = (said ≡ None) × (bad ≡ number)
ReadsLine said number (Err line_faults.ReadFault) = ⊥
ReadsLine said number (Err line_faults.Memory) = ⊤

-- a line that was answered as bad comes next, behind so many lines, and is past a limit
abbrev pub IsPastLimit : {X : Type 0} → ℕ → Option (List ScriptLine) → Result X LineFault → Type 0
IsPastLimit given coming result =
    (number : ℕ) → result ≡ Err (line_faults.BadLine number)
    → (number ≡ given + 1) × IfSome coming (λ lines. lines ≡ TooLong ∷ [])
