use Rattle.std.proofs.Common.{◌≡◌, ◌∷◌, ◌+◌, ◌∙◌, ap, sym, suc, drop, map, drop-cons, add-one}
use Rattle.mix_waves.proofs.FateLaws.{joined_rest}
use Rattle.mix_waves.specs.Fates.{fate_among, fate_by}
use Rattle.mix_waves.specs.Sending.{message_seen}
use Rattle.mix_waves.specs.declared.fates.ReplyFate.{ReplyFate}
use Rattle.mix_waves.proofs.fates.reply_fate.Goals as goal

pub packets-preserved : goal.packets-preserved
packets-preserved g c =
    let local = c.args.local.now in
    let place = c.packets.out-index in
    let by = fate_by c.args.config.now (message_seen c.args.message.now) in
    let rest = map by (map (λ out. out.now) (drop (place + 1) local)) in
    let split : drop place local ≡ c.out-item.result ∷ drop (place + 1) local =
    rw add-one (drop-cons local place c.out-item.result c.packets-test.true ∙ ap (λ out. out ∷ drop (suc place) local) (sym c.out-item.is)) in
    joined_rest c.packets.fate c.in_ok-fate_by.field-0 c.joined-fate.result rest c.joined-fate.ensures
    ∙ ap (λ (next : ReplyFate). fate_among (c.packets.fate ∷ next ∷ rest)) c.in_ok-fate_by.ensures
    ∙ ap (λ outs. fate_among (c.packets.fate ∷ map by (map (λ out. out.now) outs))) (sym split)
    ∙ c.packets.invariant
