use Rattle.std.proofs.Common.{List, refl, subst, sym, ℕ}
use Rattle.mix_shard.specs.Items.{Item, destination}
use Rattle.node_actors.specs.Found.{IsUnlinked}
use Rattle.node_actors.specs.Connecting.{HasKept, KeeperState}
use Rattle.node_actors.specs.declared.actors.takings.Taking.{Taking}
use Rattle.node_actors.specs.declared.actors.turns.Found.TheVariants.{Waiting, Empty, Drained}
use Rattle.node_actors.proofs.Connecting.{kept_on, kept_still}
use Rattle.node_actors.proofs.Seating.{acts_nothing, found_claims, nothing_first}
use Rattle.node_actors.proofs.actors.keeping.Keeper.visit.Goals as goal

-- without room for one more, nothing changed
pub invariant_of-self : goal.invariant_of-self
invariant_of-self g c =
    let before : KeeperState g.row.C.Denot = record {
      taker = record { seat = c.self.inside.seat; log = c.self.inside.log.items; unsent = c.self.inside.unsent };
      clock = c.self.inside.clock.now;
      hops = c.self.inside.hops.items;
      local = c.self.inside.local.items;
    } in
    subst (λ (local : List Item). HasKept g.S.Suite.meaning g.C.Clock.may_give (record before { local = local })) (sym c.reserve.ensures.items) c.self.invariant

pub returns-then-is_err : goal.returns-then-is_err
returns-then-is_err g c = rw (← c.self.view_is) (record { nothing = nothing_first c.self.inside.seat; clock = refl; hops = refl })

pub invariant_of-self-in-Packet : goal.invariant_of-self-in-Packet
invariant_of-self-in-Packet g c =
    let before : KeeperState g.row.C.Denot = record {
      taker = record { seat = c.self.inside.seat; log = c.self.inside.log.items; unsent = c.self.inside.unsent };
      clock = c.self.inside.clock.now;
      hops = c.self.inside.hops.items;
      local = c.self.inside.local.items;
    } in
    let was : KeeperState g.row.C.Denot = record before { local = c.reserve.new.self.items } in
    let kept = subst (λ (local : List Item). HasKept g.S.Suite.meaning g.C.Clock.may_give (record before { local = local })) (sym c.reserve.ensures.items) c.self.invariant in
    let may = subst (λ (t : KeeperState g.row.C.Denot). g.C.Clock.may_give t.clock c.args.moment) (sym c.self.view_is) c.requires.moment in
    let local = c.keep-sent.new.local.items in
    let taking : Taking Item = record { shard = c.args.shard; item = c.of-item.result; sent = c.keep-sent.result } in
    let unsent = c.unsent_with-self-inside.result in
    subst (λ (log : List (Taking Item)). HasKept g.S.Suite.meaning g.C.Clock.may_give (record was { taker = record { seat = c.take_out_local.new.self; log = log; unsent = unsent }; local = local })) (sym c.push.ensures)
    (kept_on g.S.Suite.meaning g.C.Clock.may_give was c.take_out_local.new.self c.args.shard c.args.moment kept may c.in-Packet.held unsent taking local refl c.of-item.ensures c.in-Packet.ensures.held
    c.in-Packet.ensures.setup c.in-Packet.ensures.accepted (subst (λ (hops : List (List ℕ)). IsUnlinked hops (destination c.in-Packet.held.out)) c.as_slice.ensures.value c.in-Packet.ensures.dest) c.in-Packet.ensures.acts
    c.keep-sent.ensures.kept c.keep-sent.ensures.for_recipient c.keep-sent.ensures.none_lost c.unsent_with-self-inside.ensures)

pub invariant_of-self-in-Waiting : goal.invariant_of-self-in-Waiting
invariant_of-self-in-Waiting g c =
    let before : KeeperState g.row.C.Denot = record {
      taker = record { seat = c.self.inside.seat; log = c.self.inside.log.items; unsent = c.self.inside.unsent };
      clock = c.self.inside.clock.now;
      hops = c.self.inside.hops.items;
      local = c.self.inside.local.items;
    } in
    let was : KeeperState g.row.C.Denot = record before { local = c.reserve.new.self.items } in
    let kept = subst (λ (local : List Item). HasKept g.S.Suite.meaning g.C.Clock.may_give (record before { local = local })) (sym c.reserve.ensures.items) c.self.invariant in
    let may = subst (λ (t : KeeperState g.row.C.Denot). g.C.Clock.may_give t.clock c.args.moment) (sym c.self.view_is) c.requires.moment in
    kept_still g.S.Suite.meaning g.C.Clock.may_give was c.take_out_local.new.self c.args.shard c.args.moment kept may Waiting tt c.in-Waiting.ensures.acts

pub invariant_of-self-in-Empty : goal.invariant_of-self-in-Empty
invariant_of-self-in-Empty g c =
    let before : KeeperState g.row.C.Denot = record {
      taker = record { seat = c.self.inside.seat; log = c.self.inside.log.items; unsent = c.self.inside.unsent };
      clock = c.self.inside.clock.now;
      hops = c.self.inside.hops.items;
      local = c.self.inside.local.items;
    } in
    let was : KeeperState g.row.C.Denot = record before { local = c.reserve.new.self.items } in
    let kept = subst (λ (local : List Item). HasKept g.S.Suite.meaning g.C.Clock.may_give (record before { local = local })) (sym c.reserve.ensures.items) c.self.invariant in
    let may = subst (λ (t : KeeperState g.row.C.Denot). g.C.Clock.may_give t.clock c.args.moment) (sym c.self.view_is) c.requires.moment in
    kept_still g.S.Suite.meaning g.C.Clock.may_give was c.take_out_local.new.self c.args.shard c.args.moment kept may Empty tt c.in-Empty.ensures.acts

pub invariant_of-self-in-Drained : goal.invariant_of-self-in-Drained
invariant_of-self-in-Drained g c =
    let before : KeeperState g.row.C.Denot = record {
      taker = record { seat = c.self.inside.seat; log = c.self.inside.log.items; unsent = c.self.inside.unsent };
      clock = c.self.inside.clock.now;
      hops = c.self.inside.hops.items;
      local = c.self.inside.local.items;
    } in
    let was : KeeperState g.row.C.Denot = record before { local = c.reserve.new.self.items } in
    let kept = subst (λ (local : List Item). HasKept g.S.Suite.meaning g.C.Clock.may_give (record before { local = local })) (sym c.reserve.ensures.items) c.self.invariant in
    let may = subst (λ (t : KeeperState g.row.C.Denot). g.C.Clock.may_give t.clock c.args.moment) (sym c.self.view_is) c.requires.moment in
    kept_still g.S.Suite.meaning g.C.Clock.may_give was c.take_out_local.new.self c.args.shard c.args.moment kept may Drained tt c.in-Drained.ensures.acts

pub returns-in-Packet : goal.returns-in-Packet
returns-in-Packet g c = rw (← c.self.view_is) (record { nothing = acts_nothing _ _ _ _ c.take_out_local.ensures.acts (λ own h. found_claims _ _ c.take_out_local.result own h); clock = refl; hops = refl })

pub returns-in-Waiting : goal.returns-in-Waiting
returns-in-Waiting g c = rw (← c.self.view_is) (record { nothing = acts_nothing _ _ _ _ c.take_out_local.ensures.acts (λ own h. found_claims _ _ c.take_out_local.result own h); clock = refl; hops = refl })

pub returns-in-Empty : goal.returns-in-Empty
returns-in-Empty g c = rw (← c.self.view_is) (record { nothing = acts_nothing _ _ _ _ c.take_out_local.ensures.acts (λ own h. found_claims _ _ c.take_out_local.result own h); clock = refl; hops = refl })

pub returns-in-Drained : goal.returns-in-Drained
returns-in-Drained g c = rw (← c.self.view_is) (record { nothing = acts_nothing _ _ _ _ c.take_out_local.ensures.acts (λ own h. found_claims _ _ c.take_out_local.result own h); clock = refl; hops = refl })
