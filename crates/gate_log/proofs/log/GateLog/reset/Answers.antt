use Rattle.std.proofs.Common.{◌<◌, length, refl, sym, subst, arith}
use Rattle.gate_log.specs.Log.{LogState, ResetLeaves, Stands, records_of}
use Rattle.gate_log.proofs.Moments.{reset_moments}
use Rattle.gate_log.proofs.Standing.{emptied_stands}
use Rattle.gate_log.proofs.log.GateLog.reset.Goals as goal

pub returns-in-Ok-clause-each_moment : goal.returns-in-Ok-clause-each_moment
returns-in-Ok-clause-each_moment g c t some =
    let s0 = g.R.Rack.state c.args.rack.now in
    let s1 = g.R.Rack.state c.write_synced.new.rack in
    let stands = c.requires.stands t in
    let there : 0 < length (records_of c.args.self.now s0) = omega (arith, stands.count) in
    let inside = subst (λ (log : LogState). 0 < length (records_of log s0)) (sym c.self.view_is) there in
    let rest = subst (λ (log : LogState). Stands log s0) (sym c.self.view_is) stands in
    subst (λ (log : LogState). ResetLeaves log s0 s1) c.self.view_is (reset_moments c.self.inside.area c.self.inside.size s0 s1 inside (c.write_synced.ensures.each_moment t rest.at_rest))

pub returns-in-Err-clause-each_moment : goal.returns-in-Err-clause-each_moment
returns-in-Err-clause-each_moment g c t some =
    let s0 = g.R.Rack.state c.args.rack.now in
    let s1 = g.R.Rack.state c.write_synced.new.rack in
    let stands = c.requires.stands t in
    let there : 0 < length (records_of c.args.self.now s0) = omega (arith, stands.count) in
    let inside = subst (λ (log : LogState). 0 < length (records_of log s0)) (sym c.self.view_is) there in
    let rest = subst (λ (log : LogState). Stands log s0) (sym c.self.view_is) stands in
    subst (λ (log : LogState). ResetLeaves log s0 s1) c.self.view_is (reset_moments c.self.inside.area c.self.inside.size s0 s1 inside (c.write_synced.ensures.each_moment t rest.at_rest))

pub returns-in-Ok-clause-stands : goal.returns-in-Ok-clause-stands
returns-in-Ok-clause-stands g c t = emptied_stands _ (g.R.Rack.state c.args.rack.now) (g.R.Rack.state c.write_synced.new.rack) (c.in-Ok.ensures.written t) refl
