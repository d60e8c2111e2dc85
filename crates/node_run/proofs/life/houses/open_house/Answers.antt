use Rattle.std.proofs.Common.{◌≡◌, ◌*◌, ◌<◌, ◌^◌, ℕ, length, refl, ap, sym, subst, ◌∙◌}
use Rattle.node_run.specs.Openings.{plan_of}
use Rattle.node_run.specs.Posts.{ArePosts}
use Rattle.node_run.specs.Roles.{callers_for}
use Rattle.node_run.specs.Seats.{callers_with}
use Rattle.node_run.proofs.Streets.{has_room_as, house_is, room_as}
use Rattle.node_run.proofs.life.houses.open_house.Goals as goal

pub pairs_for-callers-requires : goal.pairs_for-callers-requires
pairs_for-callers-requires g c =
    let seat = c.args.seat in
    let workers = c.args.workers in
    let incoming : c.len-listeners.result ≡ length seat.incoming.items = c.len-listeners.ensures ∙ seat.incoming.ok.0 in
    let outgoing : c.len-links.result ≡ length seat.outgoing.items = c.len-links.ensures ∙ seat.outgoing.ok.0 in
    subst (λ (n : ℕ). callers_for n workers c.len-links.result < 2 ^ 32) (sym incoming)
    (subst (λ (n : ℕ). callers_for (length seat.incoming.items) workers n < 2 ^ 32) (sym outgoing) c.requires.opens.callers)

pub returns-clause-house : goal.returns-clause-house
returns-clause-house g c =
    let seat = c.args.seat in
    let workers = c.args.workers in
    let opened = c.in_ok-hall.field-0 in
    let incoming : c.len-listeners.result ≡ length seat.incoming.items = c.len-listeners.ensures ∙ seat.incoming.ok.0 in
    let outgoing : c.len-links.result ≡ length seat.outgoing.items = c.len-links.ensures ∙ seat.outgoing.ok.0 in
    let shards : c.len-shards.result ≡ length seat.shards.items = c.len-shards.ensures ∙ seat.shards.ok.0 in
    let callers : 2 * c.pairs_for-callers.result ≡ callers_with workers seat =
    c.pairs_for-callers.ensures ∙ (ap (λ n. callers_for n workers c.len-links.result) incoming ∙ ap (λ n. callers_for (length seat.incoming.items) workers n) outgoing) in
    house_is g.S.K.Kem.CT workers seat (record { hall = opened.hall; rooms = c.in-Ok.rooms; lefts = c.in-Ok-with_capacity.lefts; hands = c.in-Ok-with_capacity-2.hands; incoming = c.of-incoming.result; outgoing = c.of-outgoing.result })
    c.requires c.in_ok-hall.ensures.hall
    (ap (λ v. v.items) c.of-incoming.ensures) (ap (λ v. v.items) c.of-outgoing.ensures)
    (room_as c.in-Ok.rooms c.len-shards.result (2 * c.pairs_for-callers.result) c.len-listeners.result workers c.len-links.result
    (length seat.shards.items) (callers_with workers seat) (length seat.incoming.items) workers (length seat.outgoing.items) shards callers incoming refl outgoing c.in-Ok.ensures)
    (has_room_as c.in-Ok-with_capacity.lefts (2 * c.pairs_for-callers.result) (callers_with workers seat) callers
    (record { empty = c.in-Ok-with_capacity.ensures.items; room = c.in-Ok-with_capacity.ensures.capacity }))
    (has_room_as c.in-Ok-with_capacity-2.hands (2 * c.pairs_for-callers.result) (callers_with workers seat) callers
    (record { empty = c.in-Ok-with_capacity-2.ensures.items; room = c.in-Ok-with_capacity-2.ensures.capacity }))

pub returns-clause-desk : goal.returns-clause-desk
returns-clause-desk g c =
    let seat = c.args.seat in
    let opened = c.in_ok-hall.field-0 in
    let is = c.in_ok-hall.ensures in
    record {
      hands = is.hands;
      posts = subst (λ xs. ArePosts (plan_of opened.hall xs opened.desk.outgoing.value.items) opened.hall.callers opened.desk.posts.items) (sym is.incoming)
          (subst (λ xs. ArePosts (plan_of opened.hall seat.incoming.items xs) opened.hall.callers opened.desk.posts.items) (sym is.outgoing) is.posts);
      incoming_are = is.incoming ∙ sym (ap (λ v. v.items) c.of-incoming.ensures);
      outgoing_are = is.outgoing ∙ sym (ap (λ v. v.items) c.of-outgoing.ensures);
    }
