use Rattle.ntru_prime.proofs.PairKeys.{pair_seals}
use Rattle.mix_top.proofs.storm.storm_by.Goals as goal

pub storm_over-requires-clause-sealing : goal.storm_over-requires-clause-sealing
storm_over-requires-clause-sealing g c = pair_seals
