use Rattle.std.proofs.Common.{arith}
use Rattle.std.proofs.lemmas.List.FromFn.{fill_by_all}
use Rattle.ntru_code.specs.Packing.{translated}
use Rattle.ntru_code.proofs.encoding.encode.Goals as goal

pub returns : goal.returns
returns g c =
    fill_by_all (translated c.args.form.now.fields c.args.form.now.bytes (g.D.Digits.at c.args.fields.now)) c.loop-place.out c.args.form.now.bytes.count 0 (omega arith)
    (λ k inside. c.loop-place.invariant k (omega arith))
