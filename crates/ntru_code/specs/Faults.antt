-- Why reading failed, and which bytes are read.
use Rattle.std.specs.Prelude.{◌≡◌, ⊤, ℕ, ℤ, List, Result, MatchResult}
use Rattle.ntru_code.specs.Forms.{IsFirstOutOfRange, spelling}
use Rattle.ntru_code.specs.declared.forms.Form.{Form}
use Rattle.ntru_code.specs.declared.faults.CodeFault.{CodeFault}
use Rattle.ntru_code.specs.declared.faults.CodeFault.TheVariants.{Range, Memory}

-- a refusal names the first field out of range; want of memory may come at any time
abbrev pub IsCause : Form → List ℕ → CodeFault → Type 0
IsCause form bytes (Range range) = IsFirstOutOfRange form bytes range.index
IsCause form bytes Memory = ⊤

-- no field is to blame
abbrev pub OnlyMemory : CodeFault → Type 0
OnlyMemory (Range range) = ⊥
OnlyMemory Memory = ⊤

-- where the bytes spell some polynomial, it is what was read, unless memory ran out
abbrev pub ReadsBack : Form → List ℕ → List ℤ → Result (List ℤ) CodeFault → Type 0
ReadsBack form bytes polynomial result =
    bytes ≡ spelling form polynomial → MatchResult result (λ found. found ≡ polynomial) OnlyMemory
