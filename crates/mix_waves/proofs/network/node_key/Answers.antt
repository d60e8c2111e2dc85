use Rattle.std.proofs.Common.{◌≡◌, ◌∙◌, Some, ap, sym, subst}
use Rattle.prim_std.specs.Primitives.{chacha_word}
use Rattle.epoch_keys.specs.Keys.{epoch_seed}
use Rattle.mix_base.specs.Suites.{SuiteMeaning}
use Rattle.mix_waves.specs.Choosing.{IsKey}
use Rattle.mix_waves.proofs.NodeKeys.{pair_of_suite}
use Rattle.mix_waves.proofs.network.node_key.Goals as goal

pub returns-clause-fine : goal.returns-clause-fine
returns-clause-fine g c =
    let suite_laws = g.met.S.Suite in
    let kem_laws = g.met.S.K.Kem in
    let config = c.args.config.now in
    let key = c.in_ok-key.key in
    let words = chacha_word (epoch_seed key.seed key.epoch) in
    let same : c.of.result ≡ key.pk = c.of.ensures ∙ c.in_ok-to_vec.ensures.items_if_clones_equal (λ x y same. same) ∙ c.as_slice.ensures in
    subst (IsKey config) (sym same) (record {
      size = key.public_length ∙ sym (ap (λ (m : SuiteMeaning). m.kem.public_key) suite_laws.made_of_parts ∙ kem_laws.public_key_length)
          ∙ ap (λ (m : SuiteMeaning). m.kem.public_key) c.requires.suite;
      seals = pair_of_suite config.ntru words (key.pk, key.sk)
          (subst (λ (m : SuiteMeaning). m.kem.pair words ≡ Some (key.pk, key.sk)) c.requires.suite key.is_pair);
    })
