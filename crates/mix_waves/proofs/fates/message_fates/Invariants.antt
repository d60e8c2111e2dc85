use Rattle.std.proofs.Common.{◌≡◌, ◌++◌, map, drop}
use Rattle.mix_waves.specs.Fates.{message_fates}
use Rattle.mix_waves.specs.Sending.{message_seen}
use Rattle.mix_waves.proofs.fates.message_fates.Given as goal

-- what was told so far, and what is to tell of the messages to come, is all
abbrev pub invariant-messages : goal.invariant-messages
invariant-messages g l =
    let local = map (λ out. out.now) l.local in
    l.told.items ++ message_fates l.config l.delivered local (map message_seen (drop l.message-index l.messages))
    ≡ message_fates l.config l.delivered local (map message_seen l.messages)
