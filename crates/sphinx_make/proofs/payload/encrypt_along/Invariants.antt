use Rattle.std.proofs.Common.{◌≡◌, drop}
use Rattle.sphinx_make.specs.Making.{encrypted_along}
use Rattle.sphinx_make.proofs.payload.encrypt_along.Given as goal

abbrev pub invariant-layers : goal.invariant-layers
invariant-layers g l = l.payload ≡ encrypted_along g.S.Suite.meaning (drop l.place l.wides) l.initial.payload
