use Rattle.std.proofs.Common.{◌≡◌, ◌∙◌, ap, List, ℕ, [], replicate, append-nil}
use Rattle.mix_base.specs.ByteLists.{xor}
use Rattle.prim_std.specs.Primitives.{masked_key}
use Rattle.prim_std.proofs.hashing.Hmac.new.Goals as goal

pub returns : goal.returns
unfolding masked_key
returns c =
    let inner : c.masked.result ≡ masked_key c.args.key.now 0x36 =
    c.masked.ensures ∙ ap (λ (block : List ℕ). xor block (replicate 64 0x36)) c.block_of-block.ensures in
    let outer : c.masked-2.result ≡ masked_key c.args.key.now 0x5c =
    c.masked-2.ensures ∙ ap (λ (block : List ℕ). xor block (replicate 64 0x5c)) c.block_of-block.ensures in
    record {
      inner = rw (append-nil (masked_key c.args.key.now 0x36)) (rw inner at (c.update.ensures [] c.new-inner.ensures));
      outer = rw outer at (c.update-2.ensures [] c.new-outer.ensures);
    }
