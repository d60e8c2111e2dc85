-- The commands of one hop: how long it holds the packet, and where the packet goes from there. Their spelling has 72
-- bytes: the part of the delay, the part of the exit, and zeros. Numbers are big-endian.
use Rattle.std.specs.Prelude.{◌≡◌, ℕ, ◌-◌, ◌==◌, ◌≤◌, List, [], ◌∷◌, ◌++◌, length, drop, replicate, slice_index, slice_range, nat_le, Option, Some, None, IfSome, if◌then◌else◌}
use Rattle.std.specs.Int.{w32, to_be_bytes, from_be_bytes}
use Rattle.mix_base.specs.ByteLists.{all_zero}
use Rattle.mix_base.specs.Options.{◌>>=◌}
use Rattle.packet_form.specs.declared.commands.Cmds.{Cmds}
use Rattle.packet_form.specs.declared.commands.Exit.{Exit}
use Rattle.packet_form.specs.declared.commands.Exit.TheVariants.{Hop, Recipient, Reply}

-- ---- the spelling

-- the delay: nothing, or 80 (hexadecimal) and the milliseconds in four bytes
abbrev pub delay_part : Option ℕ → List ℕ
delay_part None = []
delay_part (Some delay) = 0x80 ∷ to_be_bytes w32 delay

-- the exit: 1, the next hop's id and the MAC of its header; or 2 and a recipient's id, and for a reply 3 and its id
abbrev pub exit_part : Exit → List ℕ
exit_part (Hop id mac) = 1 ∷ id ++ mac
exit_part (Recipient id) = 2 ∷ id
exit_part (Reply id surb) = 2 ∷ id ++ 3 ∷ surb

-- bytes with zeros behind them, 72 in all
abbrev pub padded : List ℕ → List ℕ
padded bytes = bytes ++ replicate (72 - length bytes) 0

-- the one spelling of commands
unfoldable pub spell : Cmds → List ℕ
spell cmds = padded (delay_part cmds.delay ++ exit_part cmds.exit)

-- the longest delay, three hours in milliseconds
abbrev pub longest_delay : ℕ
longest_delay = 10800000

-- the commands that may be spelled
abbrev pub IsAllowed : Cmds → Type 0
IsAllowed cmds = IfSome cmds.delay (λ delay. delay ≤ longest_delay)

-- ids and MACs have 32 bytes, and the id of a reply has 16, as in every value of the program
abbrev pub HasLengths : Exit → Type 0
HasLengths (Hop id mac) = (length id ≡ 32) × (length mac ≡ 32)
HasLengths (Recipient id) = length id ≡ 32
HasLengths (Reply id surb) = (length id ≡ 32) × (length surb ≡ 16)

-- ---- the reading, from the front: one part after the other, and where one isn't read, nothing is

-- a delay of so many milliseconds, with the bytes behind it, where it isn't too long
abbrev pub allowed_delay : ℕ → List ℕ → Option (Option ℕ × List ℕ)
allowed_delay delay behind = if nat_le delay longest_delay then Some (Some delay, behind) else None

-- the delay at the front, or none, and the bytes behind it
unfoldable pub delay_at : List ℕ → Option (Option ℕ × List ℕ)
delay_at bytes =
    if slice_index bytes 0 == 0x80
    then allowed_delay (from_be_bytes w32 (slice_range bytes 1 5)) (drop 5 bytes)
    else Some (None, bytes)

-- a next hop at the front
abbrev pub hop_at : List ℕ → Exit × List ℕ
hop_at bytes = (Hop (slice_range bytes 1 33) (slice_range bytes 33 65), drop 65 bytes)

-- a recipient at the front, and with a 3 behind its id a reply
abbrev pub recipient_at : List ℕ → Exit × List ℕ
recipient_at bytes =
    if slice_index bytes 33 == 3
    then (Reply (slice_range bytes 1 33) (slice_range bytes 34 50), drop 50 bytes)
    else (Recipient (slice_range bytes 1 33), drop 33 bytes)

-- the exit at the front, and the bytes behind it
unfoldable pub exit_at : List ℕ → Option (Exit × List ℕ)
exit_at bytes =
    if slice_index bytes 0 == 1 then Some (hop_at bytes)
    else (if slice_index bytes 0 == 2 then Some (recipient_at bytes) else None)

-- the commands that the bytes spell, where they spell any: a delay or none, an exit, and zeros
unfoldable pub read : List ℕ → Option Cmds
read bytes = do
  delay ← delay_at bytes
  exit ← exit_at delay.1
  if all_zero exit.1 then Some (record { delay = delay.0; exit = exit.0 }) else None
