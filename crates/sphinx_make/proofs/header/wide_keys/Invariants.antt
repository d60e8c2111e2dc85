use Rattle.std.proofs.Common.{◌≡◌, take}
use Rattle.sphinx_make.specs.Making.{wides_of}
use Rattle.sphinx_make.proofs.header.wide_keys.Given as goal

abbrev pub invariant-keys : goal.invariant-keys
invariant-keys l = l.wides.items ≡ wides_of (take l.hop-index l.hops)
