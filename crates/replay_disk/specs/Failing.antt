-- Which calls of a rack in memory fail.
use Rattle.std.specs.Prelude.{◌≡◌, ◌⊎◌, ℕ, ◌+◌, ◌-◌, ◌^◌, min, List, Option, Some, Contains}

-- the numbers of the single calls that fail, and how many calls were made since they were listed
pub record Failing : Type 0 where
  pub listed : List ℕ
  pub calls : ℕ

-- the number of the next call; it doesn't pass 2 ^ 64 - 1
abbrev pub next_number : Failing → ℕ
next_number failing = min (failing.calls + 1) (2 ^ 64 - 1)

-- the next call fails: no call is left before all fail, or it is listed
abbrev pub FailsNext : Option ℕ → Failing → Type 0
FailsNext left failing = (left ≡ Some 0) ⊎ Contains failing.listed (next_number failing)

-- after one call more
abbrev pub after_call : Failing → Failing
after_call failing = record failing { calls = next_number failing }
