use Rattle.std.proofs.Common.{◌≡◌, ◌+◌, ◌++◌, ◌∷◌, [], ◌∙◌, ℕ, List, map, ap, sym, arith}
use Rattle.std.specs.List.{list_any}
use Rattle.std.proofs.lemmas.List.FromFn.{map-range_with_len_more}
use Rattle.mix_waves.specs.Fates.{is_delivered, is_delivery}
use Rattle.mix_waves.proofs.fates.deliveries.Goals as goal

pub messages-preserved : goal.messages-preserved
messages-preserved c =
    let local = map (λ out. out.now) c.args.local.now in
    let number = c.messages.number in
    let zero_more : 0 + number ≡ number = omega arith in
    let body = c.deref.ensures.value ∙ c.in_ok-body.ensures.value in
    let one : c.any_delivery.result ≡ is_delivered c.args.config.now local number = c.any_delivery.ensures ∙ ap (λ (bytes : List ℕ). list_any (is_delivery bytes) local) body in
    c.in_ok-push.ensures.items ∙ (λ i. c.messages.invariant i ++ one i ∷ [])
    ∙ sym (map-range_with_len_more (is_delivered c.args.config.now local) 0 number number zero_more)
