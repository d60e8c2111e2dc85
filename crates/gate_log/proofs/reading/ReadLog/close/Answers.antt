use Rattle.std.proofs.Common.{sym, subst, rules}
use Rattle.gate_log.specs.Log.{ReadState, WasRead, ClosingLeaves}
use Rattle.gate_log.proofs.Standing.{stands_read}
use Rattle.gate_log.proofs.reading.ReadLog.close.Goals as goal

pub close_end-requires-clause-at_rest : goal.close_end-requires-clause-at_rest
close_end-requires-clause-at_rest g c t =
    let was = subst (λ (r : ReadState). WasRead r (g.R.Rack.state c.args.rack.now)) (sym c.self.view_is) (c.requires.was_read t) in was.at_rest

pub close_end-requires-clause-count : goal.close_end-requires-clause-count
close_end-requires-clause-count g c t =
    let was = subst (λ (r : ReadState). WasRead r (g.R.Rack.state c.args.rack.now)) (sym c.self.view_is) (c.requires.was_read t) in was.count

pub close_end-requires-clause-shut : goal.close_end-requires-clause-shut
close_end-requires-clause-shut g c t =
    let was = subst (λ (r : ReadState). WasRead r (g.R.Rack.state c.args.rack.now)) (sym c.self.view_is) (c.requires.was_read t) in was.closed

pub close_end-requires-clause-unshut : goal.close_end-requires-clause-unshut
close_end-requires-clause-unshut g c t =
    let was = subst (λ (r : ReadState). WasRead r (g.R.Rack.state c.args.rack.now)) (sym c.self.view_is) (c.requires.was_read t) in was.unclosed

pub close_end-requires-clause-few : goal.close_end-requires-clause-few
close_end-requires-clause-few g c t =
    let was = subst (λ (r : ReadState). WasRead r (g.R.Rack.state c.args.rack.now)) (sym c.self.view_is) (c.requires.was_read t) in was.few

pub returns-in_err-close_end-clause-each_moment : goal.returns-in_err-close_end-clause-each_moment
returns-in_err-close_end-clause-each_moment g c t =
    subst (λ (r : ReadState). ClosingLeaves r.area r.size (g.R.Rack.state c.args.rack.now) (g.R.Rack.state c.close_end.new.rack)) c.self.view_is (c.close_end.ensures.each_moment t)

pub returns-clause-each_moment : goal.returns-clause-each_moment
returns-clause-each_moment g c t =
    subst (λ (r : ReadState). ClosingLeaves r.area r.size (g.R.Rack.state c.args.rack.now) (g.R.Rack.state c.close_end.new.rack)) c.self.view_is (c.close_end.ensures.each_moment t)

pub returns-clause-stands : goal.returns-clause-stands
returns-clause-stands g c t =
    stands_read c.args.self c.opened.result.log (g.R.Rack.state c.args.rack.now) (g.R.Rack.state c.close_end.new.rack) (c.requires.was_read t) (search rules) (search rules) (search rules) (search rules)
