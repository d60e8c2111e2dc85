use Rattle.std.proofs.Common.{◌*◌}
use Rattle.std.proofs.lemmas.Result.{IfOk-weaker}
use Rattle.node_run.specs.Posts.{ArePosts, IsWoven, plan_for}
use Rattle.node_run.proofs.EvenOdd.{all_posts}
use Rattle.node_run.proofs.life.posts.posts_of.Goals as goal

pub returns : goal.returns
returns g c =
    let plan = plan_for c.args.queues.now c.args.shards c.args.size c.args.incoming.items c.args.outgoing.items in
    let evens = c.in_ok-evens.evens.items in
    let odds = c.in_ok-odds.odds.items in
    IfOk-weaker c.weave.result (λ woven. IsWoven evens odds woven.items) (λ posts. ArePosts plan (2 * c.args.pairs) posts.items)
    (λ woven are. all_posts plan evens odds c.in_ok-evens.ensures.posts c.in_ok-odds.ensures.posts c.args.pairs woven.items c.in_ok-evens.ensures.many are) c.weave.ensures
