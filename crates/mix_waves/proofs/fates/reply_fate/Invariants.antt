use Rattle.std.proofs.Common.{◌≡◌, ◌∷◌, map, drop}
use Rattle.mix_waves.specs.Fates.{fate_among, fate_by, reply_fate}
use Rattle.mix_waves.specs.Sending.{message_seen}
use Rattle.mix_waves.proofs.fates.reply_fate.Given as goal

-- what the packets so far say, and those to come, is all
abbrev pub invariant-packets : goal.invariant-packets
invariant-packets g l =
    fate_among (l.fate ∷ map (fate_by l.config (message_seen l.message)) (map (λ out. out.now) (drop l.out-index l.local)))
    ≡ reply_fate l.config (map (λ out. out.now) l.local) (message_seen l.message)
