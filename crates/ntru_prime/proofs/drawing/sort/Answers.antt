use Rattle.ntru_prime.proofs.Sorting.{sorted_is}
use Rattle.ntru_prime.proofs.drawing.sort.Goals as goal

pub returns : goal.returns
returns c = sorted_is c.args.words.now c.sort_unstable.new.self c.sort_unstable.ensures.permutation c.sort_unstable.ensures.sorted
