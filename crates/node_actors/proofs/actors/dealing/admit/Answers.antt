use Rattle.std.proofs.Common.{subst}
use Rattle.mix_shard.specs.Faults.{admit_answer}
use Rattle.mix_shard.specs.Items.{Item}
use Rattle.node_actors.specs.Fates.{IsFateOf}
use Rattle.node_actors.proofs.Fating.{admitted}
use Rattle.node_actors.proofs.actors.dealing.admit.Goals as goal

pub returns-clause-settled : goal.returns-clause-settled
returns-clause-settled g c =
    let fate = subst (λ (x : Item). IsFateOf (admit_answer c.claim-answer.result) x c.fate_of.result) c.of-item.ensures c.fate_of.ensures in
    let byte = c.from.ensures in
    let many = c.shards.ensures in
    let tag = c.tag.ensures in
    admitted c.args.seat.now c.claim-answer.new.self c.args.held _ _ c.fate_of.result fate (cc) c.claim-answer.ensures
