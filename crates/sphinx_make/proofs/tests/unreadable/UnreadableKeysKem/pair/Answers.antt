use Rattle.std.proofs.Common.{refl, zero-add}
use Rattle.sphinx_make.proofs.tests.unreadable.UnreadableKeysKem.pair.Goals as goal

pub returns-clause-words : goal.returns-clause-words
returns-clause-words g c = (0, λ place. rw zero-add refl)
