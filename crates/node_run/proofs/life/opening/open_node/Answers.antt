use Rattle.std.proofs.Common.{◌≡◌, ◌*◌, ℕ, length, ap, sym, subst, ◌∙◌}
use Rattle.mix_shard.specs.Items.{setup_of}
use Rattle.packet_form.specs.Geometry.{packet}
use Rattle.node_run.specs.Halls.{HallState}
use Rattle.node_run.specs.Openings.{plan_of}
use Rattle.node_run.specs.Posts.{ArePosts, plan_for}
use Rattle.node_run.specs.Roles.{callers_for}
use Rattle.node_run.proofs.Hallways.{hall_is, same_many}
use Rattle.node_run.proofs.life.opening.open_node.Goals as goal

pub hall_of-requires : goal.hall_of-requires
hall_of-requires g c =
    let seat = c.args.seat in
    let workers = c.args.workers in
    let incoming : c.len.result ≡ length seat.incoming.items = c.len.ensures ∙ seat.incoming.ok.0 in
    let outgoing : c.len-2.result ≡ length seat.outgoing.items = c.len-2.ensures ∙ seat.outgoing.ok.0 in
    let callers : 2 * c.pairs_for-pairs.result ≡ callers_for (length seat.incoming.items) workers (length seat.outgoing.items) =
    c.pairs_for-pairs.ensures ∙ (ap (λ n. callers_for n workers c.len-2.result) incoming ∙ ap (λ n. callers_for (length seat.incoming.items) workers n) outgoing) in
    hall_is (setup_of seat.geo seat.times seat.seed) seat.shards.items (length seat.incoming.items) workers (length seat.outgoing.items) (2 * c.pairs_for-pairs.result) c.in-Ok-lock_shards.field-0.locks.items c.in-Ok.queues.items
    c.requires callers c.in-Ok-lock_shards.ensures.quiet c.in-Ok-lock_shards.ensures.tales

pub returns-in-Ok-lock_shards-clause-posts : goal.returns-in-Ok-lock_shards-clause-posts
returns-in-Ok-lock_shards-clause-posts g c =
    let seat = c.args.seat in
    let queues = c.in-Ok.queues.items in
    let posts = c.in-Ok.posts.items in
    let callers = 2 * c.pairs_for-pairs.result in
    let locks = c.in-Ok-lock_shards.field-0.locks.items in
    let shards : c.len-3.result ≡ length locks = c.len-3.ensures ∙ (seat.shards.ok.0 ∙ sym (same_many seat.shards.items locks c.in-Ok-lock_shards.ensures.tales)) in
    subst (λ (hall : HallState). ArePosts (plan_of hall seat.incoming.items seat.outgoing.items) hall.callers posts) (sym c.hall_of.ensures)
    (subst (λ (n : ℕ). ArePosts (plan_for queues n (packet seat.geo) seat.incoming.items seat.outgoing.items) callers posts) shards
    (subst (λ (n : ℕ). ArePosts (plan_for queues c.len-3.result n seat.incoming.items seat.outgoing.items) callers posts) c.packet.ensures.value c.in-Ok.ensures.posts))
