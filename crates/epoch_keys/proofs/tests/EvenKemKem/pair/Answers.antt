-- One word was taken.
use Rattle.std.proofs.Common.{ap, add_comm, ◌∙◌}
use Rattle.epoch_keys.proofs.tests.EvenKemKem.pair.Goals as goal

pub returns-then-next-eq0-clause-words : goal.returns-then-next-eq0-clause-words
returns-then-next-eq0-clause-words g c = (1, λ place. c.next.ensures.rest place ∙ ap (g.W.Words.to_come c.args.words.now) (add_comm place 1))

pub returns-else-next-eq0-clause-words : goal.returns-else-next-eq0-clause-words
returns-else-next-eq0-clause-words g c = (1, λ place. c.next.ensures.rest place ∙ ap (g.W.Words.to_come c.args.words.now) (add_comm place 1))
