use Rattle.std.proofs.Common.{List, subst, sym}
use Rattle.mix_shard.specs.Items.{Item}
use Rattle.node_actors.specs.Fates.{HasDealt}
use Rattle.node_actors.specs.declared.actors.fates.Dealt.{Dealt}
use Rattle.node_actors.proofs.Fating.{dealt_first}
use Rattle.node_actors.proofs.Moments.{moves_first}
use Rattle.node_actors.proofs.actors.dealing.Dealer.new.Goals as goal

pub invariant_of-result : goal.invariant_of-result
invariant_of-result g c = (
  subst (λ (log : List (Dealt Item)). HasDealt g.S.Suite.meaning (record { seat = c.args.seat; log = log; dropped = 0 })) (sym c.new.ensures)
      (dealt_first g.S.Suite.meaning c.args.seat c.requires.nothing),
  c.requires.open,
  c.requires.even,
  c.requires.some,
  c.requires.ciphertext,
  moves_first (λ moment. ⊥) c.args.seat c.requires.nothing,
)
