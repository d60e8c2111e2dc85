use Rattle.std.proofs.Common.{List, ℕ, [], ◌++◌, ap, ◌∙◌, codes}
use Rattle.prim_std.specs.Primitives.{hmac}
use Rattle.mix_waves.proofs.drawing.key_of_client.Goals as goal

pub returns : goal.returns
returns c =
    let seed = c.args.config.now.seed in
    c.finish.ensures seed (codes "mix-client" ++ c.to_be_bytes.result)
    (c.add-2.ensures seed (codes "mix-client") (c.add.ensures seed [] c.new-code.ensures))
    ∙ ap (λ (bytes : List ℕ). hmac seed (codes "mix-client" ++ bytes)) c.to_be_bytes.ensures
