use Rattle.std.proofs.Common.{◌++◌, length, map, reverse, arith}
use Rattle.node_run.specs.Houses.{IsDesk, IsStanding, kept_in}
use Rattle.node_run.specs.Seats.{kept_of}
use Rattle.node_run.proofs.Moving.{all_but_last, goes_in, is_last}
use Rattle.node_run.proofs.Streets.{ends_zip}
use Rattle.node_run.proofs.life.houses.close_all.Goals as goal

pub unlived-requires-clause-room : goal.unlived-requires-clause-room
unlived-requires-clause-room g c =
    let house = c.in-Some.house in
    let stands = is_last (IsStanding g.S.K.Kem.CT) c.loop-house.houses.items c.pop.new.self.items house c.in-Some.ensures.items c.loop-house.invariant.standing in
    (length house.incoming.value.items, length house.hall.queues, length house.outgoing.value.items, stands.room)

pub loop-house-preserved : goal.loop-house-preserved
loop-house-preserved g c =
    let before = c.loop-house.invariant in
    let house = c.in-Some.house in
    record {
      are = goes_in kept_in kept_of (map kept_of c.args.seats.now.items ++ map kept_in (reverse c.args.houses.items)) c.loop-house.seats.items c.push_reserved.new.self.items c.unlived.result
          c.loop-house.houses.items c.pop.new.self.items house before.are c.in-Some.ensures.items c.push_reserved.ensures.items c.unlived.ensures;
      standing = all_but_last (IsStanding g.S.K.Kem.CT) c.loop-house.houses.items c.pop.new.self.items house c.in-Some.ensures.items before.standing;
      desks = (ends_zip IsDesk c.loop-house.houses.items c.pop.new.self.items house c.loop-house.desks.items c.pop-in-Some.new.self.items c.in-Some-pop.desk
          c.in-Some.ensures.items c.in-Some-pop.ensures.items before.desks).1;
      room = (let a = c.in-Some.ensures.cases in let b = c.push_reserved.ensures.len in let d = c.push_reserved.ensures.capacity in let e = before.room in omega arith);
    }
