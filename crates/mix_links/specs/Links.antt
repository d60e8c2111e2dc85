-- What came over a link.
use Rattle.std.specs.Prelude.{◌≡◌, ◌<◌, ⊤, ℕ, List, ◌++◌, length}
use Rattle.mix_links.specs.declared.links.Arrived.{Arrived}
use Rattle.mix_links.specs.declared.links.Arrived.TheVariants.{Packet, End, Failed}

-- Of the bytes left before, the buffer and the bytes left after: a packet is the front of what was left.
-- At the end the bytes that are cut off are all that is left. Else nothing is taken
abbrev pub Takes : Arrived → List ℕ → List ℕ → List ℕ → Type 0
Takes Packet before buffer after = before ≡ buffer ++ after
Takes (End cut) before buffer after = (length before ≡ cut) × (after ≡ before)
Takes Failed before buffer after = after ≡ before

-- at the end less is left than a packet of this size
abbrev pub EndsShort : Arrived → ℕ → Type 0
EndsShort Packet size = ⊤
EndsShort (End cut) size = cut < size
EndsShort Failed size = ⊤

abbrev pub IsFailed : Arrived → Type 0
IsFailed Packet = ⊥
IsFailed (End cut) = ⊥
IsFailed Failed = ⊤

-- the fact, where no packet came
abbrev pub OnNoPacket : Arrived → Type 0 → Type 0
OnNoPacket Packet fact = ⊤
OnNoPacket (End cut) fact = fact
OnNoPacket Failed fact = fact
