use Rattle.std.proofs.Common.{arith}
use Rattle.turn_lock.proofs.Rounds.{all_own, all_rest, every}
use Rattle.turn_lock.proofs.tests.closed.Goals as goal

pub close-requires-clause-own : goal.close-requires-clause-own
close-requires-clause-own c = all_own c.args.lock 0 c.args.passes.items c.requires.0

pub close-requires-clause-rest : goal.close-requires-clause-rest
close-requires-clause-rest c = all_rest c.args.lock 0 c.args.passes.items c.requires.0

pub close-requires-clause-every : goal.close-requires-clause-every
close-requires-clause-every c = λ n low. every c.args.lock 0 c.args.passes.items c.requires.0 n (omega arith) (let e = c.requires.1 in omega arith)
