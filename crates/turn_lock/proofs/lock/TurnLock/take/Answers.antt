use Rattle.std.proofs.Common.{◌≡◌, [], subst}
use Rattle.turn_lock.specs.Seen.{Caller}
use Rattle.turn_lock.specs.Stories.{entries_by, after}
use Rattle.turn_lock.proofs.Passes.{took_others}
use Rattle.turn_lock.proofs.lock.TurnLock.take.Goals as goal

pub returns-clause-others : goal.returns-clause-others
returns-clause-others g c =
    let P : Caller g.row.T-Entry.Denot → Type 0 = λ p. entries_by g.T.Storied.caller p.number (after p.seen (g.T.Storied.story c.take_out-value.result)) ≡ [] in
    let took = c.wait_begin.ensures.begins in
    subst P c.pass.view_is (took_others g.T.Storied.origin g.T.Storied.story g.T.Storied.caller _ _ _ _ _ _ c.pass.invariant took.1 c.take_out-value.ensures.value)
