use Rattle.std.proofs.Common.{◌∙◌, ap, List, ℕ, ◌++◌, length, drop, replicate}
use Rattle.std.proofs.lemmas.List.{drop-replicate}
use Rattle.prim_std.proofs.hashing.padded.Goals as goal

pub returns : goal.returns
returns c =
    ap (λ (front : List ℕ). front ++ drop (length c.args.bytes.now) (replicate 64 0)) c.copy_from_slice.ensures.after
    ∙ ap (λ (back : List ℕ). c.args.bytes.now ++ back) (drop-replicate (length c.args.bytes.now) 64 0)
