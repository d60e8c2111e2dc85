use Rattle.std.proofs.Common.{◌∙◌, ap, List, ℕ, ◌++◌}
use Rattle.sha2.specs.Sha256.{sha256}
use Rattle.prim_std.specs.Primitives.{hmac, masked_key}
use Rattle.prim_std.proofs.hashing.Hmac.finish.Goals as goal

pub returns : goal.returns
unfolding hmac
returns c key message held =
    c.finalize-2.ensures _ (c.update.ensures _ held.outer)
    ∙ ap (λ (digest : List ℕ). sha256 (masked_key key 0x5c ++ digest)) (c.finalize.ensures _ held.inner)
