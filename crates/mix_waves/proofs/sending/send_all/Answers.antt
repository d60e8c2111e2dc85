use Rattle.std.proofs.Common.{◌≡◌, ◌∷◌, [], ◌∙◌, List, Ok, map, ap, sym, subst, All, length, add-one}
use Rattle.std.proofs.lemmas.List.{map-append}
use Rattle.std.proofs.lemmas.List.Elements.{All-append, All-cons, All-nil}
use Rattle.packet_form.specs.Geometry.{block}
use Rattle.mix_waves.specs.Choosing.{drawn_with}
use Rattle.mix_waves.specs.Drawing.{Choices, choices_from}
use Rattle.mix_waves.specs.Sending.{Sending, made_of, message_seen, words_after}
use Rattle.mix_waves.specs.declared.sending.Message.{Message}
use Rattle.mix_waves.proofs.Waves.{sent_more}
use Rattle.mix_waves.proofs.sending.send_all.Goals as goal

pub messages-preserved : goal.messages-preserved
messages-preserved g c =
    let config = c.args.config.now in
    let keys = c.args.keys.now in
    let before = g.W.Words.to_come c.args.words.now in
    let after = g.W.Words.to_come c.draw_message.new.words in
    let number = c.messages.number in
    let items = c.messages.messages.items in
    let last = c.in_ok-make_message.field-0 in
    let HasBlock : Message → Type 0 = λ message. length message.block ≡ block c.args.geo.now in
    let pushed = c.in_ok-push.ensures.items in
    let drawn : choices_from config (words_after config before number) ≡ drawn_with c.in_ok-drawn.drawn after =
    ap (choices_from config) (sym c.messages.invariant.1.0) ∙ c.in_ok-drawn.ensures.drawn in (
      sent_more config keys before number (map message_seen items) (message_seen last) c.messages.invariant.0
          (ap (made_of config keys number) drawn ∙ c.in_ok-make_message.ensures.made after)
          ∙ ap (λ (list : List Sending). Ok list) (sym (ap (map message_seen) pushed ∙ map-append message_seen items (last ∷ []))),
      (
        rw add-one (sym (ap (λ (choices : Choices). choices.behind) drawn)),
        subst (All HasBlock) (sym pushed)
            (All-append HasBlock items (last ∷ []) c.messages.invariant.1.1 (All-cons HasBlock last [] c.in_ok-make_message.ensures.block (All-nil HasBlock))),
      ),
    )
