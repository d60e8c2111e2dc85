use Rattle.ntru_code.proofs.tests.rounded_form.Goals as goal

pub encode_rounded-requires-clause-multiples : goal.encode_rounded-requires-clause-multiples
encode_rounded-requires-clause-multiples g c = λ place. (c.in_ok-multiples.ensures.nearest place).multiple
