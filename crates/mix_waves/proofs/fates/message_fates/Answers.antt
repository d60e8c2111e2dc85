use Rattle.std.proofs.Common.{◌≡◌, ◌∷◌, [], ◌++◌, ◌+◌, ◌∙◌, List, ap, sym, suc, drop, map, drop-cons, add-one, append_assoc}
use Rattle.mix_waves.specs.Fates.{message_fates}
use Rattle.mix_waves.specs.Sending.{message_seen}
use Rattle.mix_waves.specs.declared.fates.MessageFate.{MessageFate}
use Rattle.mix_waves.specs.declared.sending.Message.{Message}
use Rattle.mix_waves.proofs.fates.message_fates.Goals as goal

pub messages-preserved : goal.messages-preserved
messages-preserved g c =
    let messages = c.args.messages.now in
    let place = c.messages.message-index in
    let told = c.messages.told.items in
    let local = map (λ out. out.now) c.args.local.now in
    let fates : List Message → List MessageFate = λ list. message_fates c.args.config.now c.args.delivered.now local (map message_seen list) in
    let rest = fates (drop (place + 1) messages) in
    let split : drop place messages ≡ c.message-item.result ∷ drop (place + 1) messages =
    rw add-one (drop-cons messages place c.message-item.result c.messages-test.true ∙ ap (λ (message : Message). message ∷ drop (suc place) messages) (sym c.message-item.is)) in
    ap (λ (list : List MessageFate). list ++ rest) c.in_ok-push.ensures.items
    ∙ append_assoc told (c.in_ok-message_fate.field-0 ∷ []) rest
    ∙ ap (λ (fate : MessageFate). told ++ (fate ∷ rest)) c.in_ok-message_fate.ensures
    ∙ ap (λ (list : List Message). told ++ fates list) (sym split)
    ∙ c.messages.invariant
