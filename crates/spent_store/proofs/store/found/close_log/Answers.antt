use Rattle.std.proofs.Common.{Option, sym, subst}
use Rattle.replay_disk.specs.Moments.{AtEachMoment}
use Rattle.spent_store.specs.Found.{ClosesLog}
use Rattle.spent_store.specs.TagLogs.{ReadTagsState}
use Rattle.spent_store.proofs.store.found.close_log.Goals as goal

pub returns-in_ok-log-in-Some-clause-each_moment : goal.returns-in_ok-log-in-Some-clause-each_moment
returns-in_ok-log-in-Some-clause-each_moment g c t =
    let s0 = g.R.Rack.state c.args.rack.now in
    let s1 = g.R.Rack.state c.close.new.rack in
    subst (λ (read : Option ReadTagsState). AtEachMoment (ClosesLog read s0.areas) s0 s1) (sym c.in-Some.is) (c.close.ensures.each_moment t)
