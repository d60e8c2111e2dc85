use Rattle.std.proofs.Common.{◌≡◌, ◌++◌, ◌∷◌, [], ◌+◌, ◌∙◌, ℕ, List, ap, sym, subst, All, length, slice_index, map, arith}
use Rattle.std.specs.List.{range_with_len}
use Rattle.std.proofs.lemmas.List.Elements.{All-append, All-cons, All-nil}
use Rattle.std.proofs.lemmas.List.FromFn.{length-map-range_with_len, map-range_with_len_more}
use Rattle.sphinx_make.specs.declared.path.HopSpec.{HopSpec}
use Rattle.mix_waves.specs.Choosing.{IsFineHop}
use Rattle.mix_waves.specs.Sending.{hop_at}
use Rattle.mix_waves.proofs.sending.path.Goals as goal

pub layers-preserved : goal.layers-preserved
layers-preserved c =
    let config = c.args.config.now in
    let hop : ℕ → HopSpec = λ layer. hop_at config c.args.keys.now layer (slice_index c.args.words.now layer) (slice_index c.args.delays.now layer) in
    let layer = c.layers.layer in
    let zero_more : 0 + layer ≡ layer = omega arith in
    let one = c.in_ok-hop.field-0 in (
      c.in_ok-push.ensures.items ∙ ap (λ (hops : List HopSpec). hops ++ one ∷ []) c.layers.invariant.0
          ∙ ap (λ (next : HopSpec). map hop (range_with_len 0 layer) ++ next ∷ []) c.in_ok-hop.ensures.hop
          ∙ sym (map-range_with_len_more hop 0 layer layer zero_more),
      subst (All (IsFineHop config)) (sym c.in_ok-push.ensures.items)
          (All-append (IsFineHop config) c.layers.path.items (one ∷ []) c.layers.invariant.1 (All-cons (IsFineHop config) one [] c.in_ok-hop.ensures.fine (All-nil (IsFineHop config)))),
    )

pub returns-clause-fine : goal.returns-clause-fine
returns-clause-fine c =
    let config = c.args.config.now in
    let hop : ℕ → HopSpec = λ layer. hop_at config c.args.keys.now layer (slice_index c.args.words.now layer) (slice_index c.args.delays.now layer) in
    let layer = c.layers.layer in
    let all : layer ≡ config.layers = omega (arith, c.layers-test.false, c.layers.auto.layer-end) in
    record { count = ap length c.layers.invariant.0 ∙ length-map-range_with_len hop 0 layer ∙ all; each = c.layers.invariant.1 }
