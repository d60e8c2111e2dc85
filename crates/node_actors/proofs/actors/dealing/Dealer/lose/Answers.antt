use Rattle.std.proofs.Common.{List, inl, refl, subst, sym}
use Rattle.mix_shard.specs.Items.{Item}
use Rattle.node_actors.specs.Fates.{DealerState, HasDealt}
use Rattle.node_actors.specs.declared.actors.fates.Dealt.{Dealt}
use Rattle.node_actors.specs.declared.actors.fates.Fate.TheVariants.{Dropped}
use Rattle.node_actors.proofs.Fating.{dealt_on}
use Rattle.node_actors.proofs.actors.dealing.Dealer.lose.Goals as goal

pub invariant_of-self : goal.invariant_of-self
invariant_of-self g c =
    let was : DealerState = record { seat = c.self.inside.seat; log = c.self.inside.log.items; dropped = c.self.inside.dropped } in
    let dealt : Dealt Item = record { number = c.args.number; receipt = c.args.receipt; packet = c.args.packet; fate = Dropped } in
    let has = dealt_on g.S.Suite.meaning was c.self.inside.seat dealt c.counted-self-inside.result c.self.invariant.0 (inl refl) tt c.counted-self-inside.ensures in (
      subst (λ (log : List (Dealt Item)). HasDealt g.S.Suite.meaning (record { seat = c.self.inside.seat; log = log; dropped = c.counted-self-inside.result })) (sym c.push.ensures) has,
      c.self.invariant.1,
      c.self.invariant.2,
      c.self.invariant.3,
      c.self.invariant.4,
      c.self.invariant.5,
    )

pub returns-clause-log : goal.returns-clause-log
returns-clause-log g c = rw (← c.self.view_is) (record { dealt = record { number = c.args.number; receipt = c.args.receipt; packet = c.args.packet; fate = Dropped }; log = c.push.ensures; number_is = refl; receipt_is = refl; packet_is = refl })
