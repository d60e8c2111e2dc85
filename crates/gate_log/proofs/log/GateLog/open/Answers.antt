use Rattle.std.proofs.Common.{ap, subst}
use Rattle.replay_disk.specs.Disk.{RackState}
use Rattle.gate_log.specs.Log.{ReadState, ClosingLeaves}
use Rattle.gate_log.proofs.Moments.{opening_read, opening_roomy, opening_closed}
use Rattle.gate_log.proofs.log.GateLog.open.Goals as goal

pub returns-in_err-read-clause-each_moment : goal.returns-in_err-read-clause-each_moment
returns-in_err-read-clause-each_moment g c t =
    let s0 = g.R.Rack.state c.args.rack.now in
    let s1 = g.R.Rack.state c.read.new.rack in
    opening_read c.args.area c.args.size s0 s1 s1 s1 (c.read.ensures.each_moment t)

pub returns-in_err-room-clause-each_moment : goal.returns-in_err-room-clause-each_moment
returns-in_err-room-clause-each_moment g c t =
    let s0 = g.R.Rack.state c.args.rack.now in
    let s1 = g.R.Rack.state c.read.new.rack in
    let s2 = g.R.Rack.state c.room.new.self in
    opening_roomy c.args.area c.args.size s0 s1 s2 s2 (c.read.ensures.each_moment t) (ap (λ (s : RackState). s.areas) c.room.ensures.same) (ap (λ (s : RackState). s.past) c.room.ensures.same)

pub returns-in_err-close-clause-each_moment : goal.returns-in_err-close-clause-each_moment
returns-in_err-close-clause-each_moment g c t =
    let s0 = g.R.Rack.state c.args.rack.now in
    let s1 = g.R.Rack.state c.read.new.rack in
    let s2 = g.R.Rack.state c.room.new.self in
    let s3 = g.R.Rack.state c.close.new.rack in
    let closing = subst (λ (r : ReadState). ClosingLeaves r.area r.size s2 s3) c.in_ok-read.ensures.log (c.close.ensures.each_moment t) in
    opening_closed c.args.area c.args.size s0 s1 s2 s3 (c.read.ensures.each_moment t) (ap (λ (s : RackState). s.areas) c.room.ensures.same) (ap (λ (s : RackState). s.past) c.room.ensures.same) (c.read.ensures.image t) closing

pub returns-clause-each_moment : goal.returns-clause-each_moment
returns-clause-each_moment g c t =
    let s0 = g.R.Rack.state c.args.rack.now in
    let s1 = g.R.Rack.state c.read.new.rack in
    let s2 = g.R.Rack.state c.room.new.self in
    let s3 = g.R.Rack.state c.close.new.rack in
    let closing = subst (λ (r : ReadState). ClosingLeaves r.area r.size s2 s3) c.in_ok-read.ensures.log (c.close.ensures.each_moment t) in
    opening_closed c.args.area c.args.size s0 s1 s2 s3 (c.read.ensures.each_moment t) (ap (λ (s : RackState). s.areas) c.room.ensures.same) (ap (λ (s : RackState). s.past) c.room.ensures.same) (c.read.ensures.image t) closing
