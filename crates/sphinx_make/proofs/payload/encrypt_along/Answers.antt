use Rattle.std.proofs.Common.{◌≡◌, ◌+◌, ◌-◌, ◌<◌, [], length, drop, get_or, sym, ap, ◌∙◌, arith, length-drop}
use Rattle.mix_base.specs.Suites.{SuiteMeaning}
use Rattle.sphinx_make.proofs.Layers.{encrypted_along-drop, encrypted_along-nil}
use Rattle.sphinx_make.specs.Making.{encrypted_along}
use Rattle.sphinx_make.proofs.payload.encrypt_along.Goals as goal

pub layers-init : goal.layers-init
layers-init g c =
    let wides = c.args.wides.now in
    sym (encrypted_along-nil g.S.Suite.meaning (drop (length wides) wides) c.args.payload.now (omega (arith, length-drop (length wides) wides)))

pub layers-preserved : goal.layers-preserved
layers-preserved g c =
    let suite_laws = g.met.S.Suite in
    let suite = g.S.Suite.meaning in
    let wides = c.args.wides.now in
    let payload = c.args.payload.now in
    let place = c.layers.place - 1 in
    let wide = get_or wides place [] in
    let one_more : place + 1 ≡ c.layers.place = omega arith in
    let within : place < length wides = omega arith in
    let so_far : c.layers.payload ≡ encrypted_along suite (drop c.layers.place wides) payload = c.layers.invariant in
    let made : c.encrypt.new.block ≡ suite.encrypt wide c.layers.payload = c.encrypt.ensures ∙ sym (ap (λ (m : SuiteMeaning). m.encrypt wide c.layers.payload) suite_laws.made_of_parts) in
    let behind : suite.encrypt wide (encrypted_along suite (drop c.layers.place wides) payload) ≡ suite.encrypt wide (encrypted_along suite (drop (place + 1) wides) payload) =
    ap (λ n. suite.encrypt wide (encrypted_along suite (drop n wides) payload)) (sym one_more) in
    made ∙ ap (suite.encrypt wide) so_far ∙ behind ∙ sym (encrypted_along-drop suite wides place payload [] within)
