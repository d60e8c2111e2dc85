-- What became of messages and of replies, by what the last layer's nodes have for recipients of their own, and the replies
-- to the messages that were delivered.
use Rattle.std.specs.Prelude.{ℕ, Bool, true, false, ◌==◌, ◌&&◌, if◌then◌else◌, List, [], ◌∷◌, ◌++◌, length, map, slice_get, unwrap_or, Some, None, Result, Ok, Err, codes}
use Rattle.std.specs.Fmt.{decimal}
use Rattle.std.specs.List.{flat_map, list_any, range_with_len}
use Rattle.std.specs.Str.{bytes_eq}
use Rattle.packet_form.specs.Geometry.{payload}
use Rattle.sphinx_unwrap.specs.declared.outcome.Out.{Out}
use Rattle.sphinx_unwrap.specs.declared.outcome.Out.TheVariants as outs
use Rattle.reply_blocks.specs.Replies.{answer_to, opened_reply}
use Rattle.reply_blocks.specs.declared.answering.Answered.{Answered}
use Rattle.reply_blocks.specs.declared.faults.OpenFault.{OpenFault}
use Rattle.reply_blocks.specs.declared.faults.OpenFault.TheVariants as faults
use Rattle.lab_text.specs.declared.settings.Config.{Config}
use Rattle.mix_tools.specs.Suites.{meaning_for}
use Rattle.mix_waves.specs.Network.{sizes_of}
use Rattle.mix_waves.specs.Sending.{Sending, message_body, padded, reply_id}
use Rattle.mix_waves.specs.declared.fates.MessageFate.{MessageFate}
use Rattle.mix_waves.specs.declared.fates.ReplyFate.{ReplyFate}
use Rattle.mix_waves.specs.declared.fates.ReplyFate.TheVariants as fates

-- ---- messages

-- this body is delivered
abbrev pub is_delivery : List ℕ → Out → Bool
is_delivery body (outs.Deliver recipient found reply_block) = bytes_eq found body
is_delivery body (outs.Forward next packet) = false
is_delivery body (outs.Reply recipient surb payload) = false
is_delivery body (outs.Damaged recipient) = false

-- a message is delivered where its body is
abbrev pub is_delivered : Config → List Out → ℕ → Bool
is_delivered config local number = list_any (is_delivery (message_body config number)) local

-- of each message, whether it is
abbrev pub deliveries : Config → List Out → List Bool
deliveries config local = map (is_delivered config local) (range_with_len 0 config.messages)

-- whether the message of a number is, by such a list
abbrev pub was_delivered : List Bool → ℕ → Bool
was_delivered delivered number = unwrap_or (slice_get delivered number) false

-- ---- replies

abbrev pub reply_body : Config → ℕ → List ℕ
reply_body config number = padded config.body (codes "reply " ++ decimal number)

-- a delivered message is answered once
abbrev pub reply_to : Config → List Bool → Sending → List Answered
reply_to config delivered message =
    if was_delivered delivered message.number
    then answer_to (meaning_for config.ntru) (sizes_of config) message.block (reply_body config message.number) ∷ []
    else []

abbrev pub replies_to : Config → List Bool → List Sending → List Answered
replies_to config delivered messages = flat_map (reply_to config delivered) messages

-- ---- what became of a reply

-- by what its payload opens to
abbrev pub fate_of_opened : List ℕ → Result (List ℕ) OpenFault → ReplyFate
fate_of_opened body (Ok found) = if bytes_eq found body then fates.Opened else fates.Lost
fate_of_opened body (Err faults.Damaged) = fates.Damaged
fate_of_opened body (Err faults.Memory) = fates.Lost

-- by one packet: one with another id, or of another length, says nothing
abbrev pub fate_by : Config → Sending → Out → ReplyFate
fate_by config message (outs.Reply recipient surb found) =
    if bytes_eq surb (reply_id message.number) && length found == payload (sizes_of config)
    then fate_of_opened (reply_body config message.number)
    (opened_reply (meaning_for config.ntru) (sizes_of config) message.keys found)
    else fates.Lost
fate_by config message (outs.Deliver recipient body reply_block) = fates.Lost
fate_by config message (outs.Forward next packet) = fates.Lost
fate_by config message (outs.Damaged recipient) = fates.Lost

abbrev pub is_opened : ReplyFate → Bool
is_opened fates.Opened = true
is_opened fates.Damaged = false
is_opened fates.Lost = false

abbrev pub is_damaged : ReplyFate → Bool
is_damaged fates.Damaged = true
is_damaged fates.Opened = false
is_damaged fates.Lost = false

-- opened where a packet opens to its body; else damaged where one is; and else lost
abbrev pub fate_among : List ReplyFate → ReplyFate
fate_among all =
    if list_any is_opened all then fates.Opened else if list_any is_damaged all then fates.Damaged else fates.Lost

abbrev pub reply_fate : Config → List Out → Sending → ReplyFate
reply_fate config local message = fate_among (map (fate_by config message) local)

-- what became of a message, and where it was delivered, of the reply to it
abbrev pub message_fate : Config → List Bool → List Out → Sending → MessageFate
message_fate config delivered local message = record {
  number = message.number;
  reply = if was_delivered delivered message.number then Some (reply_fate config local message) else None;
}

abbrev pub message_fates : Config → List Bool → List Out → List Sending → List MessageFate
message_fates config delivered local messages = map (message_fate config delivered local) messages
