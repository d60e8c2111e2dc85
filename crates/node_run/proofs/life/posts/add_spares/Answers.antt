use Rattle.std.proofs.Common.{◌+◌, ◌-◌, length, arith}
use Rattle.node_run.specs.Posts.{IsSpare}
use Rattle.node_run.specs.declared.life.posts.Post.TheVariants as post
use Rattle.node_run.proofs.Posting.{one_more_added}
use Rattle.node_run.proofs.life.posts.add_spares.Goals as goal

pub adding-preserved : goal.adding-preserved
adding-preserved g c =
    let first = length c.args.posts.now.items in
    let low = c.adding.auto.counter in
    let len = c.len-counter.ensures in
    one_more_added (λ _ one. IsSpare one) (c.adding.counter - first) (c.adding.counter + 1 - first) c.args.posts.now.items c.adding.posts.items c.push.new.self.items post.Spare
    c.adding.invariant c.in_ok-push.ensures.items (omega arith) tt
