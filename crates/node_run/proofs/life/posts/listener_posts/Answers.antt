use Rattle.std.proofs.Common.{◌≡◌, ◌+◌, ◌∷◌, ◌++◌, [], List, ℕ, length, ap, sym, subst, ◌∙◌}
use Rattle.std.specs.Vec.Iter.{into_iter_items}
use Rattle.std.proofs.lemmas.List.{length_push}
use Rattle.node_run.specs.Posts.{AreNewSenders, AreReceivers, IsListener}
use Rattle.node_run.specs.declared.life.posts.Post.{Post}
use Rattle.node_run.specs.declared.life.posts.Post.TheVariants as post
use Rattle.node_run.proofs.Moving.{one_further}
use Rattle.node_run.proofs.Posting.{met_at, one_more_each}
use Rattle.node_run.proofs.life.posts.listener_posts.Goals as goal

pub loop-link-preserved : goal.loop-link-preserved
loop-link-preserved g c =
    let before = c.loop-link.invariant in
    let links = c.args.incoming.items in
    let queues = c.args.queues.now in
    let link = c.in-Some.link in
    let yielded = c.loop-link.yielded in
    let rest = into_iter_items c.next.new.self in
    let next = before.left ∙ ap (λ xs. yielded ++ xs) c.in-Some.ensures.steps.0 in
    let place_is : c.len-place.result ≡ length yielded = c.len-place.ensures ∙ (c.loop-link.posts.ok.0 ∙ before.many) in
    let listeners_is : c.len-listeners.result ≡ length links = c.len-listeners.ensures ∙ c.args.incoming.ok.0 in
    let one : Post g.row.N.Denot g.row.O.Denot = post.Listener c.len-place.result c.len-listeners.result link c.in_ok-senders.senders c.in_ok-buffer.buffer in
    let senders = subst (λ (n : ℕ). AreNewSenders n queues c.in_ok-senders.senders.items) place_is c.in_ok-senders.ensures.senders in
    let size = sym c.in_ok-buffer.buffer.ok.0 ∙ c.in_ok-buffer.ensures.len in
    let is : IsListener queues c.args.size links (length yielded) one = (place_is, listeners_is, met_at links yielded rest link next, senders, size) in
    let more : length yielded + 1 ≡ length (yielded ++ link ∷ []) = sym (length_push yielded link) in
    record {
      left = one_further links yielded (into_iter_items c.loop-link.link-iterator) rest link before.left c.in-Some.ensures.steps.0;
      many = ap (λ (ps : List (Post g.row.N.Denot g.row.O.Denot)). length ps) c.in_ok-push.ensures.items
          ∙ (length_push c.loop-link.posts.items one ∙ (ap (λ n. n + 1) before.many ∙ more));
      receivers = subst (λ (n : ℕ). AreReceivers n queues c.senders_to.new.receivers.items) (ap (λ n. n + 1) place_is ∙ more) c.in_ok-senders.ensures.receivers;
      posts = one_more_each (IsListener queues c.args.size links) c.loop-link.posts.items c.push.new.self.items one before.posts c.in_ok-push.ensures.items
          (subst (λ (n : ℕ). IsListener queues c.args.size links n one) (sym before.many) is);
    }
