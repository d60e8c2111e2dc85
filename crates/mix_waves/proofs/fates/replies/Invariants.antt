use Rattle.std.proofs.Common.{◌≡◌, ◌++◌, map, drop}
use Rattle.mix_waves.specs.Fates.{replies_to}
use Rattle.mix_waves.specs.Sending.{message_seen}
use Rattle.mix_waves.proofs.fates.replies.Given as goal

-- the replies so far, and those to the messages to come, are all
abbrev pub invariant-messages : goal.invariant-messages
invariant-messages g l =
    l.replies.items ++ replies_to l.config l.delivered (map message_seen (drop l.message-index l.messages)) ≡ replies_to l.config l.delivered (map message_seen l.messages)
