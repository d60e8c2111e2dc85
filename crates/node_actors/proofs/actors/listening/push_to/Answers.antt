use Rattle.std.proofs.Common.{arith}
use Rattle.node_actors.proofs.Sending.{open_still, push_keeps, pushes_where}
use Rattle.node_actors.proofs.actors.listening.push_to.Goals as goal

pub returns-clause-open : goal.returns-clause-open
returns-clause-open g c =
    open_still c.args.queues.now c.args.senders.now.items c.args.worker c.index_mut.result.now c.push.new.sender c.requires.open c.requires.worker c.index_mut.ensures.value
    (push_keeps c.push.result c.index_mut.result.now c.push.new.sender c.args.arrival c.push.ensures.ok c.push.ensures.err)

pub returns-clause-pushed : goal.returns-clause-pushed
returns-clause-pushed g c =
    let many = c.requires.open.many in
    let worker = c.requires.worker in
    pushes_where c.push.result c.args.senders.now.items c.args.worker c.index_mut.result.now c.push.new.sender c.args.arrival (omega arith) c.index_mut.ensures.value
    c.push.ensures.ok c.push.ensures.err
