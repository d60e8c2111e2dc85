use Rattle.ntru_prime.proofs.sealing.seal.Goals as goal

pub encode_rounded-requires-clause-multiples : goal.encode_rounded-requires-clause-multiples
encode_rounded-requires-clause-multiples c = λ place. (c.in_ok-c.ensures.nearest place).multiple
