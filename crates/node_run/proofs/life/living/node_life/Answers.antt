use Rattle.std.proofs.Common.{rules, ◌≡◌, ◌+◌, length, map, refl, sym, ap, ◌∙◌}
use Rattle.std.specs.Prelude.{All}
use Rattle.std.specs.List.{AllZip}
use Rattle.node_run.specs.Crews.{callers_in}
use Rattle.node_run.specs.Houses.{kept_in, node_of}
use Rattle.node_run.specs.Partings.{HasServed}
use Rattle.node_run.specs.Promises.{HasArrivals, HasGivenBack, HasHandOns, HasLife, HasMoments, HasMoves, HasRest, seats_in}
use Rattle.node_run.specs.Seats.{kept_of}
use Rattle.node_run.proofs.Lived.{all_arrivals, all_back, all_hand_ons, all_life, all_moments, all_moves, all_rest, as_many_houses, err_so, ok_so, threads_fit}
use Rattle.node_run.proofs.Streets.{has_room_as, houses_keep, houses_stand}
use Rattle.node_run.proofs.life.living.node_life.Goals as goal

pub live-requires-clause-standing : goal.live-requires-clause-standing
live-requires-clause-standing g c κs within =
    houses_stand g.S.K.Kem.CT c.args.workers c.args.nodes.items c.in-Ok-open_all.street.houses.items c.in-Ok-open_all.ensures.open.houses

pub live-requires-clause-seats : goal.live-requires-clause-seats
live-requires-clause-seats g c κs within =
    let opens = c.in-Ok-open_all.ensures.open in
    let houses = c.in-Ok-open_all.street.houses.items in
    has_room_as c.in-Ok-open_all.street.seats (length c.args.nodes.items) (length houses)
    (as_many_houses g.S.K.Kem.CT c.args.workers c.args.nodes.items houses opens.houses) opens.seats

pub live-requires-clause-threads : goal.live-requires-clause-threads
live-requires-clause-threads g c κs within =
    threads_fit g.S.K.Kem.CT c.args.workers c.args.nodes.items c.in-Ok-open_all.street.houses.items (length c.args.feeds.items) c.in-Ok.room.threads
    c.in-Ok-open_all.ensures.open.houses (c.in-Ok.ensures.threads_are ∙ c.in-Some.ensures ∙ ap (λ seats. callers_in c.args.workers seats + c.len.result) c.deref.ensures.value
    ∙ ap (λ n. callers_in c.args.workers c.args.nodes.items + n) (search rules))

pub live-requires-clause-room : goal.live-requires-clause-room
live-requires-clause-room g c κs within =
    let room = c.in-Ok.ensures in
    let houses = c.in-Ok-open_all.street.houses.items in
    record {
      threads_are = refl;
      hands_room = has_room_as c.in-Ok.room.hands c.in-Some.threads c.in-Ok.room.threads (sym room.threads_are) room.hands_room;
      nodes_room = has_room_as c.in-Ok.room.nodes c.len-2.result (length houses)
          (search rules ∙ as_many_houses g.S.K.Kem.CT c.args.workers c.args.nodes.items houses c.in-Ok-open_all.ensures.open.houses) room.nodes_room;
      links_room = has_room_as c.in-Ok.room.links c.len-3.result (length c.args.feeds.items) (search rules) room.links_room;
    }

pub returns-in-Ok-open_all-clause-life : goal.returns-in-Ok-open_all-clause-life
returns-in-Ok-open_all-clause-life g c =
    let houses = c.in-Ok-open_all.street.houses.items in
    ok_so (λ ended. AllZip (λ house end. HasServed g.R.Rack.tells g.S.Suite.meaning g.C.Clock.may_give g.N.LinkIn.left g.N.LinkIn.faults g.O.LinkOut.given g.O.LinkOut.faults
    (node_of c.args.clock.now house) end) houses ended.nodes.items) (λ ended. AllZip (HasLife c.args.workers c.args.clock.now g.R.Rack.tells g.S.Suite.meaning) c.args.nodes.items ended.nodes.items)
    (λ ended served. all_life g.S.K.Kem.CT c.args.workers g.R.Rack.tells g.S.Suite.meaning g.C.Clock.may_give g.N.LinkIn.left g.N.LinkIn.faults g.O.LinkOut.given g.O.LinkOut.faults c.args.clock.now
    c.args.nodes.items houses ended.nodes.items c.in-Ok-open_all.ensures.open.houses served) c.live.result c.live.ensures.served

pub returns-in-Ok-open_all-clause-arrivals : goal.returns-in-Ok-open_all-clause-arrivals
returns-in-Ok-open_all-clause-arrivals g c =
    let houses = c.in-Ok-open_all.street.houses.items in
    ok_so (λ ended. AllZip (λ house end. HasServed g.R.Rack.tells g.S.Suite.meaning g.C.Clock.may_give g.N.LinkIn.left g.N.LinkIn.faults g.O.LinkOut.given g.O.LinkOut.faults
    (node_of c.args.clock.now house) end) houses ended.nodes.items) (λ ended. AllZip (HasArrivals c.args.workers c.args.clock.now g.S.Suite.meaning g.N.LinkIn.left g.N.LinkIn.faults) c.args.nodes.items ended.nodes.items)
    (λ ended served. all_arrivals g.S.K.Kem.CT c.args.workers g.R.Rack.tells g.S.Suite.meaning g.C.Clock.may_give g.N.LinkIn.left g.N.LinkIn.faults g.O.LinkOut.given g.O.LinkOut.faults c.args.clock.now
    c.args.nodes.items houses ended.nodes.items c.in-Ok-open_all.ensures.open.houses served) c.live.result c.live.ensures.served

pub returns-in-Ok-open_all-clause-moves : goal.returns-in-Ok-open_all-clause-moves
returns-in-Ok-open_all-clause-moves g c =
    let houses = c.in-Ok-open_all.street.houses.items in
    ok_so (λ ended. AllZip (λ house end. HasServed g.R.Rack.tells g.S.Suite.meaning g.C.Clock.may_give g.N.LinkIn.left g.N.LinkIn.faults g.O.LinkOut.given g.O.LinkOut.faults
    (node_of c.args.clock.now house) end) houses ended.nodes.items) (λ ended. AllZip (HasMoves c.args.workers c.args.clock.now) c.args.nodes.items ended.nodes.items)
    (λ ended served. all_moves g.S.K.Kem.CT c.args.workers g.R.Rack.tells g.S.Suite.meaning g.C.Clock.may_give g.N.LinkIn.left g.N.LinkIn.faults g.O.LinkOut.given g.O.LinkOut.faults c.args.clock.now
    c.args.nodes.items houses ended.nodes.items c.in-Ok-open_all.ensures.open.houses served) c.live.result c.live.ensures.served

pub returns-in-Ok-open_all-clause-hand_ons : goal.returns-in-Ok-open_all-clause-hand_ons
returns-in-Ok-open_all-clause-hand_ons g c =
    let houses = c.in-Ok-open_all.street.houses.items in
    ok_so (λ ended. AllZip (λ house end. HasServed g.R.Rack.tells g.S.Suite.meaning g.C.Clock.may_give g.N.LinkIn.left g.N.LinkIn.faults g.O.LinkOut.given g.O.LinkOut.faults
    (node_of c.args.clock.now house) end) houses ended.nodes.items) (λ ended. AllZip (HasHandOns c.args.workers c.args.clock.now g.R.Rack.tells g.S.Suite.meaning g.O.LinkOut.given g.O.LinkOut.faults) c.args.nodes.items ended.nodes.items)
    (λ ended served. all_hand_ons g.S.K.Kem.CT c.args.workers g.R.Rack.tells g.S.Suite.meaning g.C.Clock.may_give g.N.LinkIn.left g.N.LinkIn.faults g.O.LinkOut.given g.O.LinkOut.faults c.args.clock.now
    c.args.nodes.items houses ended.nodes.items c.in-Ok-open_all.ensures.open.houses served) c.live.result c.live.ensures.served

pub returns-in-Ok-open_all-clause-moments : goal.returns-in-Ok-open_all-clause-moments
returns-in-Ok-open_all-clause-moments g c =
    let houses = c.in-Ok-open_all.street.houses.items in
    ok_so (λ ended. AllZip (λ house end. HasServed g.R.Rack.tells g.S.Suite.meaning g.C.Clock.may_give g.N.LinkIn.left g.N.LinkIn.faults g.O.LinkOut.given g.O.LinkOut.faults
    (node_of c.args.clock.now house) end) houses ended.nodes.items) (λ ended. AllZip (HasMoments c.args.workers c.args.clock.now g.C.Clock.may_give) c.args.nodes.items ended.nodes.items)
    (λ ended served. all_moments g.S.K.Kem.CT c.args.workers g.R.Rack.tells g.S.Suite.meaning g.C.Clock.may_give g.N.LinkIn.left g.N.LinkIn.faults g.O.LinkOut.given g.O.LinkOut.faults c.args.clock.now
    c.args.nodes.items houses ended.nodes.items c.in-Ok-open_all.ensures.open.houses served) c.live.result c.live.ensures.served

pub returns-in-Ok-open_all-clause-rest : goal.returns-in-Ok-open_all-clause-rest
returns-in-Ok-open_all-clause-rest g c =
    let houses = c.in-Ok-open_all.street.houses.items in
    ok_so (λ ended. AllZip (λ house end. HasServed g.R.Rack.tells g.S.Suite.meaning g.C.Clock.may_give g.N.LinkIn.left g.N.LinkIn.faults g.O.LinkOut.given g.O.LinkOut.faults
    (node_of c.args.clock.now house) end) houses ended.nodes.items) (λ ended. All (HasRest g.R.Rack.tells) ended.nodes.items)
    (λ ended served. all_rest g.S.K.Kem.CT c.args.workers g.R.Rack.tells g.S.Suite.meaning g.C.Clock.may_give g.N.LinkIn.left g.N.LinkIn.faults g.O.LinkOut.given g.O.LinkOut.faults c.args.clock.now
    c.args.nodes.items houses ended.nodes.items c.in-Ok-open_all.ensures.open.houses served) c.live.result c.live.ensures.served

pub returns-in-Ok-open_all-clause-given_back : goal.returns-in-Ok-open_all-clause-given_back
returns-in-Ok-open_all-clause-given_back g c =
    let houses = c.in-Ok-open_all.street.houses.items in
    ok_so (λ ended. AllZip (λ house end. HasServed g.R.Rack.tells g.S.Suite.meaning g.C.Clock.may_give g.N.LinkIn.left g.N.LinkIn.faults g.O.LinkOut.given g.O.LinkOut.faults
    (node_of c.args.clock.now house) end) houses ended.nodes.items) (λ ended. All HasGivenBack ended.nodes.items)
    (λ ended served. all_back g.S.K.Kem.CT c.args.workers g.R.Rack.tells g.S.Suite.meaning g.C.Clock.may_give g.N.LinkIn.left g.N.LinkIn.faults g.O.LinkOut.given g.O.LinkOut.faults c.args.clock.now
    c.args.nodes.items houses ended.nodes.items c.in-Ok-open_all.ensures.open.houses served) c.live.result c.live.ensures.served

pub returns-in-Ok-open_all-clause-refusal : goal.returns-in-Ok-open_all-clause-refusal
returns-in-Ok-open_all-clause-refusal g c =
    let houses = c.in-Ok-open_all.street.houses.items in
    err_so (λ fault. map kept_of (seats_in fault) ≡ map kept_in houses) (λ fault. map kept_of (seats_in fault) ≡ map kept_of c.args.nodes.items)
    (λ fault back. back ∙ houses_keep g.S.K.Kem.CT c.args.workers c.args.nodes.items houses c.in-Ok-open_all.ensures.open.houses) c.live.result c.live.ensures.back
