-- What a read takes from a source.
use Rattle.std.specs.Prelude.{◌≡◌, ℕ, ◌<◌, List, [], ◌++◌, length, take}

-- a read of n bytes into a buffer: they were the front of what was left; 0 into a buffer with room only at the end
pub record TakesFront (before after buffer : List ℕ) (n : ℕ) : Type 0 where
  pub front : before ≡ take n buffer ++ after
  pub end : n ≡ 0 → 0 < length buffer → before ≡ []

-- a source of bytes in memory: what is left, the calls that fail, and how often it was called and has failed
pub record SourceState : Type 0 where
  pub left : List ℕ
  pub failing : List ℕ
  pub calls : ℕ
  pub faults : ℕ
