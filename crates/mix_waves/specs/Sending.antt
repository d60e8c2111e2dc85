-- The messages of the first wave, each with a reply block, under the keys of an epoch.
use Rattle.std.specs.Prelude.{ℕ, zero, suc, ◌-◌, ◌%◌, List, [], ◌∷◌, ◌++◌, length, map, take, get_or, replicate, slice_index, Some, Result, Ok, codes}
use Rattle.std.specs.Fmt.{decimal}
use Rattle.std.specs.Int.{to_be_bytes, w64}
use Rattle.std.specs.List.{range_with_len}
use Rattle.mix_base.specs.Results.{◌>>=◌}
use Rattle.sphinx_make.specs.Making.{made_packet}
use Rattle.sphinx_make.specs.declared.faults.MakeFault.{MakeFault}
use Rattle.sphinx_make.specs.declared.path.HopSpec.{HopSpec}
use Rattle.reply_blocks.specs.Blocks.{Keys, first_id, keys_seen, made_block}
use Rattle.lab_text.specs.declared.settings.Config.{Config}
use Rattle.mix_tools.specs.Suites.{meaning_for}
use Rattle.mix_waves.specs.Network.{node_id, number_of, sizes_of}
use Rattle.mix_waves.specs.Drawing.{Choices, choices_from}
use Rattle.mix_waves.specs.declared.sending.Message.{Message}

-- ---- what a message says

-- a text with zeros behind it, up to a body's length
abbrev pub padded : ℕ → List ℕ → List ℕ
padded size text = take size text ++ replicate (size - length text) 0

abbrev pub message_body : Config → ℕ → List ℕ
message_body config number = padded config.body (codes "message " ++ decimal number)

abbrev pub recipient_id : List ℕ
recipient_id = replicate 32 255

-- the id of the reply to a message
abbrev pub reply_id : ℕ → List ℕ
reply_id number = to_be_bytes w64 number ++ replicate 8 0

-- ---- a path

-- the hop in a layer: the node at the word's place, under its key, with a delay
abbrev pub hop_at : Config → List (List ℕ) → ℕ → ℕ → ℕ → HopSpec
hop_at config keys layer word delay =
    let place = word % config.width in
    record { id = node_id layer place; key = get_or keys (number_of config layer place) []; delay = Some delay }

-- a hop in each layer, by the words and the delays drawn for a path
abbrev pub path_by : Config → List (List ℕ) → List ℕ → List ℕ → List HopSpec
path_by config keys words delays =
    map (λ layer. hop_at config keys layer (slice_index words layer) (slice_index delays layer)) (range_with_len 0 config.layers)

-- ---- a message

-- what is sent, and what the client keeps: its number, the first hop, the packet, the block and the block's keys
pub record Sending : Type 0 where
  pub number : ℕ
  pub first : List ℕ
  pub packet : List ℕ
  pub block : List ℕ
  pub keys : Keys

abbrev pub message_seen : Message → Sending
message_seen message = record {
  number = message.number;
  first = message.first;
  packet = message.packet;
  block = message.block;
  keys = keys_seen message.keys;
}

-- a message as it is made of what was drawn; no maker refuses it
abbrev pub made_of : Config → List (List ℕ) → ℕ → Choices → Result Sending MakeFault
made_of config keys number drawn =
    let suite = meaning_for config.ntru in
    let sizes = sizes_of config in
    let there = path_by config keys drawn.there drawn.there_delays in
    let back = path_by config keys drawn.back drawn.back_delays in do
      made ← made_block suite sizes back recipient_id (reply_id number) drawn.own drawn.block_coins
      packet ← made_packet suite sizes there recipient_id (message_body config number) (Some made.0) drawn.coins
      Ok (record { number = number; first = first_id there; packet = packet; block = made.0; keys = made.1 })

-- ---- the wave

-- the words to come behind the first so many messages
abbrev pub words_after : Config → (ℕ → ℕ) → ℕ → ℕ → ℕ
words_after config words zero = words
words_after config words (suc count) = (choices_from config (words_after config words count)).behind

-- the first so many messages, one after the other
abbrev pub sent : Config → List (List ℕ) → (ℕ → ℕ) → ℕ → Result (List Sending) MakeFault
sent config keys words zero = Ok []
sent config keys words (suc count) = do
  before ← sent config keys words count
  last ← made_of config keys count (choices_from config (words_after config words count))
  Ok (before ++ last ∷ [])
