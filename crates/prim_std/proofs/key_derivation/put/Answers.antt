use Rattle.std.proofs.Common.{◌∙◌, ap, ℕ, List, ◌++◌, length, take, arith}
use Rattle.prim_std.proofs.Expansion.{take-put}
use Rattle.prim_std.proofs.key_derivation.put.Goals as goal

pub returns : goal.returns
returns c =
    let front = c.split_at_mut-rest.result.0.now in
    let rest = c.split_at_mut-rest.result.1.now in
    take-put front rest c.args.block.now c.copy_from_slice.new.self c.args.at c.min-count.result (length c.args.out.now)
    c.split_at_mut-rest.ensures.front_len (omega arith) (omega arith) c.min-count.ensures c.copy_from_slice.ensures.after
    ∙ ap (λ (start : List ℕ). take (length c.args.out.now) (start ++ c.args.block.now)) c.split_at_mut-rest.ensures.front
