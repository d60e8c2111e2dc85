use Rattle.std.proofs.Common.{◌≡◌, ◌+◌, length, sym, ap, ◌∙◌}
use Rattle.std.proofs.lemmas.List.Elements.{All-push}
use Rattle.std.proofs.lemmas.Result.{err_from_is_err_and}
use Rattle.sphinx_make.proofs.PathLemmas.{all_sealed, goes_on_at, left_after, stops_at}
use Rattle.sphinx_make.specs.Faults.{cause_of}
use Rattle.sphinx_make.specs.Making.{sealed_path}
use Rattle.sphinx_make.specs.Sealing.{HasKeyLengths}
use Rattle.sphinx_make.proofs.sealing.seal_path.Goals as goal

pub returns-in_err-next-clause-exact : goal.returns-in_err-next-clause-exact
returns-in_err-next-clause-exact g c =
    let suite_laws = g.met.S.Suite in
    let kem_laws = g.met.S.K.Kem in
    let suite = g.S.Suite.meaning in
    let coins_are : suite.kem.coins ≡ c.COINS.result = ap (λ m. m.kem.coins) suite_laws.made_of_parts ∙ kem_laws.coins_length ∙ sym c.COINS.ensures in
    let p = err_from_is_err_and c.from_residual-in_err-next.result c.from_residual-in_err-next.ensures.1 in
    rw (p.1, p.2) (stops_at suite (cause_of c.in_err-next.field-0.0) c.sealing.sealed.items c.sealing.place c.COINS.result c.args.path.now c.index-path-place.result c.sealing.rest.now c.split_at.result.0.now (sealed_path suite 0 c.args.path.now c.args.coins.now) coins_are c.sealing-test.true c.index-path-place.is c.split_at.ensures.front c.in_err-next.ensures.exact c.sealing.invariant.so_far)

pub sealing-preserved : goal.sealing-preserved
sealing-preserved g c =
    let suite_laws = g.met.S.Suite in
    let kem_laws = g.met.S.K.Kem in
    let suite = g.S.Suite.meaning in
    let coins_are : suite.kem.coins ≡ c.COINS.result = ap (λ m. m.kem.coins) suite_laws.made_of_parts ∙ kem_laws.coins_length ∙ sym c.COINS.ensures in
    record {
      so_far = goes_on_at suite c.sealing.sealed.items c.push.new.self.items c.sealing.place c.COINS.result c.args.path.now c.index-path-place.result c.sealing.rest.now c.split_at.result.0.now c.split_at.result.1.now c.in_ok-next.next (sealed_path suite 0 c.args.path.now c.args.coins.now) coins_are c.sealing-test.true c.index-path-place.is c.split_at.ensures.front c.split_at.ensures.back c.in_ok-next.ensures.exact c.in_ok-push.ensures.items c.sealing.invariant.so_far;
      left = left_after (length c.args.path.now) c.sealing.place g.S.K.Kem.COINS (length c.sealing.rest.now) (length c.split_at.result.1.now) c.sealing-test.true c.sealing.invariant.left (ap (λ n. length c.split_at.result.1.now + n) (sym c.COINS.ensures) ∙ c.split_at.ensures.back_len);
      each = rw c.in_ok-push.ensures.items (All-push (HasKeyLengths g.S.K.Kem.CT) c.sealing.sealed.items c.in_ok-next.next c.sealing.invariant.each c.in_ok-next.ensures.lengths);
    }

pub returns-clause-exact : goal.returns-clause-exact
returns-clause-exact g c =
    all_sealed g.S.Suite.meaning c.sealing.sealed.items c.sealing.place c.args.path.now c.sealing.rest.now (sealed_path g.S.Suite.meaning 0 c.args.path.now c.args.coins.now) c.sealing-test.false c.sealing.invariant.so_far
