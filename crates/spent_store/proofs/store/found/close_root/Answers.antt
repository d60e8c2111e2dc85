use Rattle.spent_store.proofs.Opening.{closing_at, root_closed}
use Rattle.spent_store.proofs.store.found.close_root.Goals as goal

pub returns-in_err-opened-clause-each_moment : goal.returns-in_err-opened-clause-each_moment
returns-in_err-opened-clause-each_moment g c t =
    let s0 = g.R.Rack.state c.args.rack.now in
    let s1 = g.R.Rack.state c.close.new.rack in
    root_closed c.args.shape.now s0 s1 (closing_at c.args.root.area c.args.root.size s0 s1 c.requires.area c.requires.size (c.close.ensures.each_moment t))

pub returns-in_ok-opened-clause-each_moment : goal.returns-in_ok-opened-clause-each_moment
returns-in_ok-opened-clause-each_moment g c t =
    let s0 = g.R.Rack.state c.args.rack.now in
    let s1 = g.R.Rack.state c.close.new.rack in
    root_closed c.args.shape.now s0 s1 (closing_at c.args.root.area c.args.root.size s0 s1 c.requires.area c.requires.size (c.close.ensures.each_moment t))
