use Rattle.std.proofs.Common.{◌+◌, ◌∷◌, ◌++◌, [], length, ap, sym, ◌∙◌}
use Rattle.std.specs.Vec.Iter.{into_iter_items}
use Rattle.std.proofs.lemmas.List.{length_push}
use Rattle.node_run.specs.Posts.{HasReceiver}
use Rattle.node_run.specs.declared.life.posts.Post.TheVariants as post
use Rattle.node_run.proofs.Moving.{one_further}
use Rattle.node_run.proofs.Posting.{met_at, one_more_added}
use Rattle.node_run.proofs.life.posts.add_workers.Goals as goal

pub loop-receiver-preserved : goal.loop-receiver-preserved
loop-receiver-preserved g c =
    let before = c.loop-receiver.invariant in
    let receiver = c.in-Some.receiver in
    let yielded = c.loop-receiver.yielded in
    let rest = into_iter_items c.next.new.self in
    let next = before.left ∙ ap (λ xs. yielded ++ xs) c.in-Some.ensures.steps.0 in
    record {
      left = one_further c.args.receivers.items yielded (into_iter_items c.loop-receiver.receiver-iterator) rest receiver before.left c.in-Some.ensures.steps.0;
      place = ap (λ k. k + 1) before.place ∙ sym (length_push yielded receiver);
      posts = one_more_added (HasReceiver c.args.receivers.items) (length yielded) (length (yielded ++ receiver ∷ [])) c.args.posts.now.items c.loop-receiver.posts.items c.push.new.self.items (post.Worker c.loop-receiver.place receiver)
          before.posts c.in_ok-push.ensures.items (length_push yielded receiver) (before.place, met_at c.args.receivers.items yielded rest receiver next);
    }
