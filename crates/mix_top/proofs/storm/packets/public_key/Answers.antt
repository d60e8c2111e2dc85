use Rattle.std.proofs.Common.{sym, subst}
use Rattle.prim_std.specs.Primitives.{chacha_word}
use Rattle.epoch_keys.specs.Keys.{epoch_seed}
use Rattle.mix_top.specs.Storming.{IsSealing}
use Rattle.mix_top.proofs.storm.packets.public_key.Goals as goal

pub returns-then-eq-clause-sealing : goal.returns-then-eq-clause-sealing
returns-then-eq-clause-sealing g c =
    subst (IsSealing g.S.Suite.meaning.kem) (sym c.in_ok-copied.ensures)
    (c.requires.sealing (chacha_word (epoch_seed c.in-Some.key.seed c.in-Some.key.epoch)) (c.in-Some.key.pk, c.in-Some.key.sk) c.in-Some.key.is_pair)

pub returns-clause-sealing : goal.returns-clause-sealing
returns-clause-sealing g c =
    subst (IsSealing g.S.Suite.meaning.kem) (sym c.in_ok-public.ensures)
    (c.requires.sealing (chacha_word (epoch_seed c.in_ok-key.key.seed c.in_ok-key.key.epoch)) (c.in_ok-key.key.pk, c.in_ok-key.key.sk) c.in_ok-key.key.is_pair)
