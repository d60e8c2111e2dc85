use Rattle.std.proofs.Common.{◌-◌, length}
use Rattle.node_run.proofs.EvenOdd.{even_parts}
use Rattle.node_run.proofs.life.posts.even_posts.Goals as goal

pub returns-clause-posts : goal.returns-clause-posts
returns-clause-posts g c =
    even_parts c.args.queues.now c.args.size c.args.incoming.items c.listener_posts.new.receivers.items c.in_ok-posts.posts.items c.add_workers.new.posts.items c.add_spares.new.posts.items (c.args.pairs - length c.add_workers.new.posts.items)
    c.in_ok-posts.ensures.many c.in_ok-posts.ensures.posts c.in_ok-posts.ensures.receivers c.in_ok-add_workers.ensures c.in_ok-add_spares.ensures
