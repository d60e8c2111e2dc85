-- The sizes of a geometry, and the lengths in bytes that follow from them. All packets of a geometry have one length.
use Rattle.std.specs.Prelude.{ℕ, ◌+◌, ◌*◌, ◌≤◌}

-- the length of a ciphertext, the greatest number of hops, and the length of a body
pub record Sizes : Type 0 where
  pub ct : ℕ
  pub hops : ℕ
  pub body : ℕ

-- a number from low to high
abbrev pub IsWithin : ℕ → ℕ → ℕ → Type 0
IsWithin low high n = (low ≤ n) × (n ≤ high)

-- the sizes that a geometry may have
pub record InRange (sizes : Sizes) : Type 0 where
  pub ct : sizes.ct ≤ 4096
  pub hops : IsWithin 1 5 sizes.hops
  pub body : IsWithin 1 4096 sizes.body

-- one hop's part of the routing information: the next ciphertext, and 72 bytes of commands
abbrev pub slot : Sizes → ℕ
slot sizes = sizes.ct + 72

-- the routing information: a slot for each hop
abbrev pub routing : Sizes → ℕ
routing sizes = sizes.hops * slot sizes

-- the header: version, ciphertext, routing information and MAC
abbrev pub header : Sizes → ℕ
header sizes = 2 + sizes.ct + routing sizes + 32

-- a reply block: a header, the id of its first hop, and a key of the wide block cipher
abbrev pub block : Sizes → ℕ
block sizes = header sizes + 32 + 128

-- the payload: 32 zeros, a flag and a zero, the room of a block, and the body
abbrev pub payload : Sizes → ℕ
payload sizes = 32 + 2 + block sizes + sizes.body

-- the packet: header and payload
abbrev pub packet : Sizes → ℕ
packet sizes = header sizes + payload sizes
