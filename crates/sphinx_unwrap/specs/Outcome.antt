-- What goes out of a layer, and what unwrapping gives.
use Rattle.std.specs.Prelude.{◌≡◌, ◌≢◌, ℕ, List, [], ◌∷◌, ◌++◌, length, drop, slice_range, Option, Some, None, IsSomeAnd, Result, Ok}
use Rattle.mix_base.specs.Results.{◌>>=◌}
use Rattle.mix_base.specs.Suites.{SuiteMeaning}
use Rattle.packet_form.specs.Commands.{read}
use Rattle.packet_form.specs.Geometry.{Sizes, slot}
use Rattle.packet_form.specs.Geometry as lengths
use Rattle.packet_form.specs.declared.commands.Exit.{Exit}
use Rattle.packet_form.specs.declared.commands.Exit.TheVariants as exits
use Rattle.sphinx_unwrap.specs.Layer.{Layer, opened, ciphertext_of, commands_of, mac_of, payload_of, payload_under, routing_of, unhidden, unsealed}
use Rattle.sphinx_unwrap.specs.Payload.{spell, HasRoom, read_block, body_of}
use Rattle.sphinx_unwrap.specs.declared.faults.Refused.{Refused}
use Rattle.sphinx_unwrap.specs.declared.outcome.Opened.{Opened}
use Rattle.sphinx_unwrap.specs.declared.outcome.Out.{Out}
use Rattle.sphinx_unwrap.specs.declared.outcome.Out.TheVariants as outs

-- the packet of these parts: version 0, a ciphertext, routing information, a MAC and a payload
abbrev pub packet_of : List ℕ → List ℕ → List ℕ → List ℕ → List ℕ
packet_of ciphertext routing_bytes mac payload = 0 ∷ 0 ∷ ciphertext ++ routing_bytes ++ mac ++ payload

-- to the next hop: the next ciphertext and routing information, the MAC of the commands, and the payload
abbrev pub forwarded : Layer → List ℕ → List ℕ
forwarded layer mac = packet_of layer.next_ciphertext layer.next_routing mac layer.payload

-- to a recipient: the body with its block, where the payload before the body is right
abbrev pub received : List ℕ → List ℕ → Option (Option (List ℕ)) → Out
received recipient body (Some reply_block) = outs.Deliver recipient body reply_block
received recipient body None = outs.Damaged recipient

-- what goes out by an exit
abbrev pub out_by : Sizes → Layer → Exit → Out
out_by sizes layer (exits.Hop id mac) = outs.Forward id (forwarded layer mac)
out_by sizes layer (exits.Recipient id) = received id (body_of sizes layer.payload) (read_block sizes layer.payload)
out_by sizes layer (exits.Reply id surb) = outs.Reply id surb layer.payload

-- what goes out of a layer
abbrev pub out : Sizes → Layer → Out
out sizes layer = out_by sizes layer layer.commands.exit

-- a packet unwrapped with a secret key, or the first refusal
unfoldable pub unwrapped : SuiteMeaning → Sizes → List ℕ → List ℕ → Result Opened Refused
unwrapped suite sizes sk packet = do
  layer ← opened suite sizes sk packet
  Ok (record { tag = layer.tag; delay = layer.commands.delay; out = out sizes layer })

-- ---- the same in other words

-- a forwarded packet by its places: what stood in the slot and behind it, the MAC of the commands, and the payload
pub record IsForwarded (sizes : Sizes) (slots mac payload packet : List ℕ) : Type 0 where
  pub whole : length packet ≡ lengths.packet sizes
  pub version : slice_range packet 0 2 ≡ 0 ∷ 0 ∷ []
  pub ciphertext : ciphertext_of sizes packet ≡ slice_range slots 0 sizes.ct
  pub routing : routing_of sizes packet ≡ drop (slot sizes) slots
  pub true_mac : mac_of sizes packet ≡ mac
  pub behind : payload_of sizes packet ≡ payload

-- the payload spells no body, with or without a block
abbrev pub SpellsNothing : Sizes → List ℕ → Type 0
SpellsNothing sizes payload =
    (reply_block : Option (List ℕ)) (body : List ℕ) → HasRoom sizes reply_block → payload ≢ spell sizes reply_block body

-- each exit has its outcome: the next hop gets a packet of those parts, a recipient what the payload spells, or
-- Damaged where it spells nothing, and the maker of a reply block the payload as it is
abbrev pub Leaves : Sizes → List ℕ → List ℕ → Exit → Out → Type 0
Leaves sizes slots payload (exits.Hop id mac) (outs.Forward next packet) =
    (next ≡ id) × IsForwarded sizes slots mac payload packet
Leaves sizes slots payload (exits.Recipient id) (outs.Deliver recipient body reply_block) =
    (recipient ≡ id) × (payload ≡ spell sizes reply_block body)
Leaves sizes slots payload (exits.Recipient id) (outs.Damaged recipient) =
    (recipient ≡ id) × SpellsNothing sizes payload
Leaves sizes slots payload (exits.Reply id surb) (outs.Reply recipient reply_id whole) =
    (recipient ≡ id) × (reply_id ≡ surb) × (whole ≡ payload)
Leaves sizes slots payload _ _ = ⊥

-- the slot has commands; the delay is theirs, and what goes out leaves by their exit
abbrev pub Says : Sizes → List ℕ → List ℕ → Opened → Type 0
Says sizes slots payload opened =
    IsSomeAnd (read (commands_of sizes slots))
    (λ commands. (opened.delay ≡ commands.delay) × Leaves sizes slots payload commands.exit opened.out)

-- the secret key opens the packet, and what is opened is what slots and payload under the hop's keys say
abbrev pub SaysUnder : SuiteMeaning → Sizes → List ℕ → List ℕ → Opened → Type 0
SaysUnder suite sizes sk packet opened =
    IsSomeAnd (unsealed suite sizes sk packet)
    (λ keys. Says sizes (unhidden suite sizes keys packet) (payload_under suite sizes packet keys) opened)
