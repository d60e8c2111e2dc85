-- The report of a run: how many messages were sent and delivered and a line for each, how many replies were sent and opened
-- and a line for each, and a line for each shard of each node.
use Rattle.std.specs.Prelude.{ℕ, Bool, true, false, List, [], ◌∷◌, ◌++◌, length, map, Option, Some, None, is_some, codes}
use Rattle.std.specs.Fmt.{decimal}
use Rattle.std.specs.List.{count_by, flat_map}
use Rattle.std.specs.Option.{option_map_or}
use Rattle.lab_text.specs.WordForms.{line_of}
use Rattle.mix_waves.specs.Fates.{is_opened}
use Rattle.mix_waves.specs.declared.fates.MessageFate.{MessageFate}
use Rattle.mix_waves.specs.declared.fates.ReplyFate.{ReplyFate}
use Rattle.mix_waves.specs.declared.fates.ReplyFate.TheVariants as fates
use Rattle.mix_waves.specs.declared.report.ReportLine.{ReportLine}
use Rattle.mix_waves.specs.declared.report.ReportLine.TheVariants as lines
use Rattle.mix_waves.specs.declared.report.ShardCount.{ShardCount}

-- ---- a line

abbrev pub message_word : Bool → List ℕ
message_word true = codes "delivered"
message_word false = codes "lost"

abbrev pub reply_word : ReplyFate → List ℕ
reply_word fates.Opened = codes "opened"
reply_word fates.Damaged = codes "damaged"
reply_word fates.Lost = codes "lost"

-- wave 1 sent N delivered N · message I delivered or lost · wave 2 sent N opened N · reply I opened, damaged or lost ·
-- node NUMBER shard S spent C handed H
abbrev pub words_of : ReportLine → List (List ℕ)
words_of (lines.Messages sent delivered) =
    codes "wave" ∷ codes "1" ∷ codes "sent" ∷ decimal sent ∷ codes "delivered" ∷ decimal delivered ∷ []
words_of (lines.Message number delivered) = codes "message" ∷ decimal number ∷ message_word delivered ∷ []
words_of (lines.Replies sent opened) =
    codes "wave" ∷ codes "2" ∷ codes "sent" ∷ decimal sent ∷ codes "opened" ∷ decimal opened ∷ []
words_of (lines.Reply number fate) = codes "reply" ∷ decimal number ∷ reply_word fate ∷ []
words_of (lines.Node count) =
    codes "node" ∷ decimal count.node ∷ codes "shard" ∷ decimal count.shard
    ∷ codes "spent" ∷ decimal count.spent ∷ codes "handed" ∷ decimal count.handed ∷ []

abbrev pub text_of : ReportLine → List ℕ
text_of line = line_of (words_of line)

-- ---- all lines

abbrev pub was_delivered : MessageFate → Bool
was_delivered fate = is_some fate.reply

abbrev pub was_opened : MessageFate → Bool
was_opened fate = option_map_or is_opened fate.reply false

abbrev pub replies_line : ℕ → ℕ → ReportLine
replies_line sent opened = lines.Replies sent opened

abbrev pub message_line : MessageFate → ReportLine
message_line fate = lines.Message fate.number (was_delivered fate)

-- a reply has a line only where the message was delivered
abbrev pub reply_lines : ℕ → Option ReplyFate → List ReportLine
reply_lines number None = []
reply_lines number (Some fate) = lines.Reply number fate ∷ []

abbrev pub reply_lines_of : MessageFate → List ReportLine
reply_lines_of fate = reply_lines fate.number fate.reply

abbrev pub node_line : ShardCount → ReportLine
node_line count = lines.Node count

abbrev pub all_lines : List MessageFate → List ShardCount → List ReportLine
all_lines messages counts =
    (lines.Messages (length messages) (count_by was_delivered messages) ∷ map message_line messages)
    ++ (replies_line (count_by was_delivered messages) (count_by was_opened messages) ∷ flat_map reply_lines_of messages)
    ++ map node_line counts

abbrev pub report_text : List MessageFate → List ShardCount → List ℕ
report_text messages counts = flat_map text_of (all_lines messages counts)
