use Rattle.std.proofs.Common.{◌≡◌, length, List, sym, subst, arith}
use Rattle.std.proofs.lemmas.List.{take_all}
use Rattle.due_queue.specs.Inside.{HasFound}
use Rattle.due_queue.proofs.FirstDue.{none_at_first}
use Rattle.due_queue.proofs.queue.first_due.Goals as goal

pub items-init : goal.items-init
items-init g c = none_at_first g.T.Due.told c.args.wanted c.args.moment

pub returns : goal.returns
returns g c =
    let all = take_all c.items.place c.args.items.now (omega arith) in
    subst (λ (seen : List _). HasFound g.T.Due.told c.args.wanted c.args.moment c.args.items.now seen c.items.found) all c.items.invariant
