use Rattle.std.proofs.Common.{ℕ, List, [], ◌++◌, codes, ap, ◌∙◌}
use Rattle.prim_std.specs.Primitives.{hmac}
use Rattle.epoch_keys.specs.Keys.{epoch_seed}
use Rattle.epoch_keys.proofs.pairs.words_key.Goals as goal

pub returns : goal.returns
unfolding epoch_seed
returns c =
    let label = c.add.ensures c.args.seed.now [] c.new-code.ensures in
    let number = c.add-2.ensures c.args.seed.now (codes "mix-epoch") label in
    c.finish.ensures c.args.seed.now (codes "mix-epoch" ++ c.to_be_bytes.result) number
    ∙ ap (λ (bytes : List ℕ). hmac c.args.seed.now (codes "mix-epoch" ++ bytes)) c.to_be_bytes.ensures
