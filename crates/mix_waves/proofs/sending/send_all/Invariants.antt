use Rattle.std.proofs.Common.{◌≡◌, map, length, All, Ok}
use Rattle.packet_form.specs.Geometry.{block}
use Rattle.mix_waves.specs.Sending.{message_seen, sent, words_after}
use Rattle.mix_waves.proofs.sending.send_all.Given as goal

-- the first so many messages were made, and the words behind theirs are to come
abbrev pub invariant-messages : goal.invariant-messages
invariant-messages g l =
    let before = g.W.Words.to_come l.initial.words in
    (sent l.config l.keys before l.number ≡ Ok (map message_seen l.messages.items))
    × ((g.W.Words.to_come l.words ≡ words_after l.config before l.number)
    × All (λ message. length message.block ≡ block l.geo) l.messages.items)
