-- The states of the objects in memory.
use Rattle.std.specs.Prelude.{ℕ, Bool, ◌||◌, List, length, nat_le, IsTrue}

-- a list of bytes: what is left, the calls that fail, and how often it was called and has failed
pub record InState : Type 0 where
  pub left : List ℕ
  pub failing : List ℕ
  pub calls : ℕ
  pub faults : ℕ

-- a list of packets: those given, the sends that fail, and how often it was asked to send and has failed
pub record OutState : Type 0 where
  pub given : List (List ℕ)
  pub failing : List ℕ
  pub calls : ℕ
  pub faults : ℕ

-- a net: the calls that fail, and how often it was called and has failed
pub record NetState : Type 0 where
  pub failing : List ℕ
  pub calls : ℕ
  pub faults : ℕ

-- one end of a line in memory: how often it has failed
pub record EndState : Type 0 where
  pub faults : ℕ

-- the bytes on their way, and whether more may be put in
pub record PipeState : Type 0 where
  pub left : List ℕ
  pub closed : Bool

-- a packet of this size is there, or none will be
abbrev pub IsReady : PipeState → ℕ → Type 0
IsReady pipe size = IsTrue (pipe.closed || nat_le size (length pipe.left))
