use Rattle.std.proofs.Common.{◌≡◌, ◌<◌, ◌%◌, ℕ, List, length, refl, subst, sym, ap, ◌∙◌}
use Rattle.std.specs.declared.vec.Vec.{Vec}
use Rattle.mix_shard.specs.Items.{Item}
use Rattle.node_actors.specs.Fates.{DealerState, HasCause, HasDealt}
use Rattle.node_actors.specs.Seats.{SeatState}
use Rattle.node_actors.specs.declared.actors.fates.Dealt.{Dealt}
use Rattle.node_actors.proofs.Fating.{dealt_on, settled_open, settled_same}
use Rattle.node_actors.proofs.Moments.{settled_moves}
use Rattle.node_actors.proofs.actors.dealing.Dealer.deal.Goals as goal

pub invariant_of-self : goal.invariant_of-self
invariant_of-self g c =
    let was : DealerState = record { seat = c.self.inside.seat; log = c.self.inside.log.items; dropped = c.self.inside.dropped } in
    let dealt : Dealt Item = record { number = c.args.arrival.number; receipt = c.args.arrival.receipt; packet = c.of-bytes.result; fate = c.settle-fate.result } in
    let fate = c.settle-fate.result in
    let seat = c.settle-fate.new.seat in
    let settled = c.settle-fate.ensures.settled in
    let cause = subst (λ (bytes : List ℕ). HasCause g.S.Suite.meaning c.self.inside.seat.setup c.args.arrival.number c.args.arrival.receipt bytes fate) (sym (ap (λ (v : Vec ℕ _). v.items) c.of-bytes.ensures)) c.settle-fate.ensures.cause in
    let has = dealt_on g.S.Suite.meaning was seat dealt c.counted-self-inside.result c.self.invariant.0 settled cause c.counted-self-inside.ensures in
    let same = settled_same fate c.self.inside.seat seat settled in (
      subst (λ (log : List (Dealt Item)). HasDealt g.S.Suite.meaning (record { seat = seat; log = log; dropped = c.counted-self-inside.result })) (sym c.push.ensures) has,
      settled_open fate c.self.inside.seat seat settled c.self.invariant.1,
      subst (λ (s : SeatState). s.caller % 2 ≡ 0) (sym same) c.self.invariant.2,
      subst (λ (s : SeatState). 0 < length s.locks) (sym same) c.self.invariant.3,
      subst (λ (s : SeatState). s.setup.geometry.ct ≡ g.S.K.Kem.CT) (sym same) c.self.invariant.4,
      settled_moves fate c.self.inside.seat seat settled c.self.invariant.5,
    )

pub returns-clause-log : goal.returns-clause-log
returns-clause-log g c = rw (← c.self.view_is) (record { dealt = record { number = c.args.arrival.number; receipt = c.args.arrival.receipt; packet = c.of-bytes.result; fate = c.settle-fate.result }; log = c.push.ensures; number_is = refl; receipt_is = refl; packet_is = ap (λ (v : Vec ℕ _). v.items) c.of-bytes.ensures ∙ c.into_vec-packet.ensures })
