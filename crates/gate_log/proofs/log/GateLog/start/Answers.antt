use Rattle.std.proofs.Common.{true, refl, sym, subst}
use Rattle.gate_log.specs.Log.{LogState, Stands}
use Rattle.gate_log.proofs.Standing.{emptied_stands}
use Rattle.gate_log.proofs.log.GateLog.start.Goals as goal

pub returns-clause-stands : goal.returns-clause-stands
returns-clause-stands g c t =
    let s0 = g.R.Rack.state c.args.rack.now in
    let s1 = g.R.Rack.state c.write_synced.new.rack in
    let log : LogState = record { area = c.args.area; size = c.args.size; limit = c.args.limit; count = 0; sound = true } in
    subst (λ (l : LogState). Stands l s1) (sym c.sound.ensures) (emptied_stands log s0 s1 (c.in_ok-write_synced.ensures.written t) refl)
