use Rattle.std.proofs.Common.{arith, sym}
use Rattle.std.proofs.lemmas.List.{length-take-le}
use Rattle.reply_blocks.proofs.opening.is_recovered.Goals as goal

pub slice_bounds-is_zero-end : goal.slice_bounds-is_zero-end
slice_bounds-is_zero-end c = sym (length-take-le _ c.args.recovered.now (omega arith))
