use Rattle.std.proofs.Common.{◌≡◌, take, Some, None, sym, subst}
use Rattle.due_queue.specs.Inside.{HasFound}
use Rattle.due_queue.proofs.FirstDue.{stays_first, comes_first, is_only}
use Rattle.due_queue.proofs.queue.first_of.Goals as goal

pub returns-in-Some : goal.returns-in-Some
returns-in-Some g c =
    let found = subst (HasFound g.T.Due.told c.args.wanted c.args.moment c.args.items.now (take c.args.place c.args.items.now)) c.in-Some.is c.requires.found in
    stays_first g.T.Due.told c.args.wanted c.args.moment c.args.items.now c.args.place c.in-Some.first c.index-items-place.result c.index-items-first.result
    c.requires.place c.index-items-place.is c.index-items-first.is found (c.is_before.ensures.after c.if-not-is_before.true)

pub returns-in_default : goal.returns-in_default
returns-in_default g c =
    let found = subst (HasFound g.T.Due.told c.args.wanted c.args.moment c.args.items.now (take c.args.place c.args.items.now)) c.in-Some.is c.requires.found in
    comes_first g.T.Due.told c.args.wanted c.args.moment c.args.items.now c.args.place c.in-Some.first c.index-items-place.result c.index-items-first.result
    c.requires.place c.index-items-place.is c.index-items-first.is found (c.is_due.ensures.0 c.if-not-is_due.false) (c.is_before.ensures.before c.if-not-is_before.false)

pub returns-in_default-2 : goal.returns-in_default-2
returns-in_default-2 g c =
    let found = subst (HasFound g.T.Due.told c.args.wanted c.args.moment c.args.items.now (take c.args.place c.args.items.now)) c.in_default.is c.requires.found in
    is_only g.T.Due.told c.args.wanted c.args.moment c.args.items.now c.args.place c.index-items-place.result
    c.requires.place c.index-items-place.is found (c.is_due.ensures.0 c.if-not-is_due.false)
