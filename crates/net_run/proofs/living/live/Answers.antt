use Rattle.std.proofs.Common.{◌≡◌, ◌≤◌, [], ◌++◌, List, length, map, reverse, ap, subst, sym, ◌∙◌, arith}
use Rattle.std.specs.Global.{Vec}
use Rattle.std.proofs.lemmas.List.{append-nil}
use Rattle.node_run.specs.Promises.{seats_in}
use Rattle.node_run.specs.Seats.{kept_of}
use Rattle.net_run.specs.Living.{AreOriginsOf}
use Rattle.net_run.specs.Nodes.{AreSitesLater}
use Rattle.net_run.specs.Parting.{shards_left, shards_of_seat}
use Rattle.net_run.specs.Sites.{IsEmptyFor}
use Rattle.net_run.proofs.Lasting.{back_many, ends_many, kept_origins, lived_origins}
use Rattle.net_run.proofs.NodesOpen.{all_have_shards, nodes_back}
use Rattle.net_run.proofs.living.live.Goals as goal

pub push_nodes-requires-clause-shards : goal.push_nodes-requires-clause-shards
push_nodes-requires-clause-shards g c =
    all_have_shards g.R.Rack.state g.R.Rack.tells g.S.Suite.meaning c.requires.opened.0 0 c.args.before.now.value.items c.args.nodes.items c.requires.opened.1

pub returns-in_default-clause-sites : goal.returns-in_default-clause-sites
returns-in_default-clause-sites g c =
    let put = c.push_nodes.ensures.put in
    let are = c.reverse.ensures.items ∙ put.are ∙ ap (λ sites. put.closed ++ reverse sites) c.requires.empty ∙ append-nil put.closed in
    subst (λ sites. AreSitesLater g.R.Rack.state c.args.before.now.value.items sites) (sym are)
    (nodes_back g.R.Rack.state g.R.Rack.tells g.S.Suite.meaning c.requires.opened.0 0 c.args.before.now.value.items put.closed c.args.nodes.items c.requires.opened.1 put.each)

pub end_life-requires-clause-origins : goal.end_life-requires-clause-origins
end_life-requires-clause-origins g c =
    subst (λ nodes. AreOriginsOf nodes.items (map shards_left c.in-Ok-node_life.ended.nodes.items)) (sym c.of-told.ensures)
    (lived_origins c.args.workers c.args.clock.now g.R.Rack.tells g.S.Suite.meaning c.seat_nodes-seats.result.seats.items c.in-Ok-node_life.ended.nodes.items c.args.nodes.items
    c.in-Ok-node_life.ensures.life c.seat_nodes-seats.ensures.shards)

pub end_life-requires-clause-shards : goal.end_life-requires-clause-shards
end_life-requires-clause-shards g c =
    let room = c.in-Ok.ensures.shards in
    let many = ends_many c.args.workers c.args.clock.now g.R.Rack.tells g.S.Suite.meaning c.seat_nodes-seats.result.seats.items c.in-Ok-node_life.ended.nodes.items c.args.nodes.items
    c.in-Ok-node_life.ensures.life c.seat_nodes-seats.ensures.shards in
    record { empty = room.empty; room = (let a = room.room in omega (arith, a, c.args.nodes.ok.0, many)) }

pub end_life-requires-clause-locals : goal.end_life-requires-clause-locals
end_life-requires-clause-locals g c =
    let room = c.in-Ok.ensures.locals in
    let many = ends_many c.args.workers c.args.clock.now g.R.Rack.tells g.S.Suite.meaning c.seat_nodes-seats.result.seats.items c.in-Ok-node_life.ended.nodes.items c.args.nodes.items
    c.in-Ok-node_life.ensures.life c.seat_nodes-seats.ensures.shards in
    record { empty = room.empty; room = (let a = room.room in omega (arith, a, c.args.nodes.ok.0, many)) }

pub undo-requires-clause-origins : goal.undo-requires-clause-origins
undo-requires-clause-origins g c =
    let refusal = subst (λ fault. map kept_of (seats_in fault) ≡ map kept_of c.seat_nodes-seats.result.seats.items) c.in-Err-NoThread.field-0-is c.in-Err-NoThread.ensures.refusal in
    subst (λ seats. AreOriginsOf c.of-told.result.value.items (map shards_of_seat seats.items)) (sym c.in-Err-NoThread.seats-is)
    (subst (λ nodes. AreOriginsOf nodes.items (map shards_of_seat c.in-Err-NoThread.seats.items)) (sym c.of-told.ensures)
    (kept_origins c.seat_nodes-seats.result.seats.items c.in-Err-NoThread.seats.items c.args.nodes.items refusal c.seat_nodes-seats.ensures.shards))

pub undo-requires-clause-shards : goal.undo-requires-clause-shards
undo-requires-clause-shards g c =
    let refusal = subst (λ fault. map kept_of (seats_in fault) ≡ map kept_of c.seat_nodes-seats.result.seats.items) c.in-Err-NoThread.field-0-is c.in-Err-NoThread.ensures.refusal in
    let room = c.in-Ok.ensures.shards in
    let many = back_many c.seat_nodes-seats.result.seats.items c.in-Err-NoThread.seats.items c.args.nodes.items refusal c.seat_nodes-seats.ensures.shards in
    subst (λ seats. IsEmptyFor (length seats.items) c.in-Ok.rooms.shards) (sym c.in-Err-NoThread.seats-is)
    (record { empty = room.empty; room = (let a = room.room in omega (arith, a, c.args.nodes.ok.0, many)) })

pub undo-requires-in-Err-Memory-clause-origins : goal.undo-requires-in-Err-Memory-clause-origins
undo-requires-in-Err-Memory-clause-origins g c =
    let refusal = subst (λ fault. map kept_of (seats_in fault) ≡ map kept_of c.seat_nodes-seats.result.seats.items) c.in-Err-Memory.field-0-is c.in-Err-Memory.ensures.refusal in
    subst (λ seats. AreOriginsOf c.of-told.result.value.items (map shards_of_seat seats.items)) (sym c.in-Err-Memory.seats-is)
    (subst (λ nodes. AreOriginsOf nodes.items (map shards_of_seat c.in-Err-Memory.seats.items)) (sym c.of-told.ensures)
    (kept_origins c.seat_nodes-seats.result.seats.items c.in-Err-Memory.seats.items c.args.nodes.items refusal c.seat_nodes-seats.ensures.shards))

pub undo-requires-in-Err-Memory-clause-shards : goal.undo-requires-in-Err-Memory-clause-shards
undo-requires-in-Err-Memory-clause-shards g c =
    let refusal = subst (λ fault. map kept_of (seats_in fault) ≡ map kept_of c.seat_nodes-seats.result.seats.items) c.in-Err-Memory.field-0-is c.in-Err-Memory.ensures.refusal in
    let room = c.in-Ok.ensures.shards in
    let many = back_many c.seat_nodes-seats.result.seats.items c.in-Err-Memory.seats.items c.args.nodes.items refusal c.seat_nodes-seats.ensures.shards in
    subst (λ seats. IsEmptyFor (length seats.items) c.in-Ok.rooms.shards) (sym c.in-Err-Memory.seats-is)
    (record { empty = room.empty; room = (let a = room.room in omega (arith, a, c.args.nodes.ok.0, many)) })
