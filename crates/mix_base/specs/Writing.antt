-- What a put gives to a sink.
use Rattle.std.specs.Prelude.{◌≡◌, ℕ, List, ◌++◌, take}

-- a front of the piece was given, behind what had been given before
abbrev pub GivesFront : List ℕ → List ℕ → List ℕ → Type 0
GivesFront before after piece = (n : ℕ) × (after ≡ before ++ take n piece)

-- a sink in memory: what it was given, the calls that fail, and how often it was called and has failed
pub record SinkState : Type 0 where
  pub given : List ℕ
  pub failing : List ℕ
  pub calls : ℕ
  pub faults : ℕ
