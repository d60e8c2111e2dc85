-- The payload as a recipient gets it: 32 zeros, a flag, a zero, the room of a block, and the body. The flag is 1
-- where the room holds a block, and 0 where it holds zeros.
use Rattle.std.specs.Prelude.{◌≡◌, ℕ, ◌+◌, ◌==◌, List, ◌∷◌, ◌++◌, length, drop, replicate, slice_index, slice_range, ◌&&◌, Option, Some, None, IfSome, if◌then◌else◌}
use Rattle.mix_base.specs.ByteLists.{all_zero}
use Rattle.packet_form.specs.Geometry.{Sizes, block}

-- the flag, a zero and the room of a block
abbrev pub spelled_block : Sizes → Option (List ℕ) → List ℕ
spelled_block sizes None = 0 ∷ 0 ∷ replicate (block sizes) 0
spelled_block sizes (Some bytes) = 1 ∷ 0 ∷ bytes

-- a block, if there is one, fills its room
abbrev pub HasRoom : Sizes → Option (List ℕ) → Type 0
HasRoom sizes reply_block = IfSome reply_block (λ bytes. length bytes ≡ block sizes)

-- the payload that carries a block, or none, and a body
abbrev pub spell : Sizes → Option (List ℕ) → List ℕ → List ℕ
spell sizes reply_block body = replicate 32 0 ++ spelled_block sizes reply_block ++ body

-- the block, or none, that a flag and a room say
abbrev pub block_in : ℕ → List ℕ → Option (Option (List ℕ))
block_in flag room =
    if flag == 1 then Some (Some room)
    else (if flag == 0 && all_zero room then Some None else None)

-- the block, or none, where the payload before the body is right
unfoldable pub read_block : Sizes → List ℕ → Option (Option (List ℕ))
read_block sizes payload =
    if all_zero (slice_range payload 0 32) && slice_index payload 33 == 0
    then block_in (slice_index payload 32) (slice_range payload 34 (34 + block sizes))
    else None

-- the body, behind the room of a block
abbrev pub body_of : Sizes → List ℕ → List ℕ
body_of sizes payload = drop (34 + block sizes) payload
