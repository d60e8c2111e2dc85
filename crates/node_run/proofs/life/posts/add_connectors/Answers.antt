use Rattle.std.proofs.Common.{◌∷◌, ◌++◌, [], List, ℕ, length, ap, ◌∙◌}
use Rattle.std.specs.Vec.Iter.{into_iter_items}
use Rattle.std.proofs.lemmas.List.{length_push}
use Rattle.node_run.specs.Posts.{IsConnector}
use Rattle.node_run.specs.declared.life.posts.Post.TheVariants as post
use Rattle.node_run.proofs.Moving.{one_further}
use Rattle.node_run.proofs.Posting.{met_at, one_more_added}
use Rattle.node_run.proofs.life.posts.add_connectors.Goals as goal

pub loop-hop-preserved : goal.loop-hop-preserved
loop-hop-preserved g c =
    let before = c.loop-hop.invariant in
    let out : List ℕ × g.row.O.Denot = (c.in-Some.hop, c.in-Some.link) in
    let yielded = c.loop-hop.yielded in
    let rest = into_iter_items c.next.new.self in
    let next = before.left ∙ ap (λ xs. yielded ++ xs) c.in-Some.ensures.steps.0 in
    record {
      left = one_further c.args.outgoing.items yielded (into_iter_items c.loop-hop.hop-iterator) rest out before.left c.in-Some.ensures.steps.0;
      posts = one_more_added (IsConnector c.args.outgoing.items) (length yielded) (length (yielded ++ out ∷ [])) c.args.posts.now.items c.loop-hop.posts.items c.push.new.self.items (post.Connector c.in-Some.hop c.in-Some.link)
          before.posts c.in_ok-push.ensures.items (length_push yielded out) (met_at c.args.outgoing.items yielded rest out next);
    }
