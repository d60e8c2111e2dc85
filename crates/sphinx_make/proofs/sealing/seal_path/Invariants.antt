use Rattle.std.proofs.Common.{◌≡◌, ◌-◌, ◌*◌, length, drop, All}
use Rattle.sphinx_make.proofs.PathLemmas.{with_front}
use Rattle.sphinx_make.specs.Making.{sealed_path}
use Rattle.sphinx_make.specs.Sealing.{HasKeyLengths}
use Rattle.sphinx_make.proofs.sealing.seal_path.Given as goal

abbrev pub invariant-sealing : goal.invariant-sealing
invariant-sealing g l = record {
  so_far : with_front l.sealed.items (sealed_path g.S.Suite.meaning l.place (drop l.place l.path) l.rest) ≡ sealed_path g.S.Suite.meaning 0 l.fn.path l.fn.coins;
  left : length l.rest ≡ (length l.path - l.place) * g.S.K.Kem.COINS;
  each : All (HasKeyLengths g.S.K.Kem.CT) l.sealed.items;
}
