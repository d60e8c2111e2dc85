use Rattle.std.proofs.Common.{◌≡◌, ℕ, suc, ◌+◌, ◌-◌, ◌*◌, ◌∙◌, List, fold, Err, ap, sym, subst, arith}
use Rattle.std.proofs.lemmas.Result.{err_from_is_err_and}
use Rattle.node_core.specs.declared.setup.NodeSetup.{NodeSetup}
use Rattle.mix_top.specs.Acts.{Act, first_acts, of_each}
use Rattle.mix_top.specs.Progress.{Breaks, Goes, act_at}
use Rattle.mix_top.specs.Report.{Line}
use Rattle.mix_top.specs.Storm.{Making}
use Rattle.mix_top.specs.Storming.{StormProgress, making_at}
use Rattle.mix_top.specs.Tallies.{tallied, tally_takes}
use Rattle.mix_top.specs.declared.serving.Round.TheVariants as rounds
use Rattle.mix_top.proofs.StormRuns.{goes_further, keyless_stops, opened_first, progress_at, progress_ended, storm_begins, storm_broken, storm_goes_on, storm_unopened, tally_never_fails}
use Rattle.mix_top.proofs.storm.running.serve_packets.Goals as goal

pub returns-in_err-go_round-clause-stops : goal.returns-in_err-go_round-clause-stops
returns-in_err-go_round-clause-stops g c =
    let p = err_from_is_err_and c.from_residual.result c.from_residual.ensures.1 in
    rw (p.1, p.2) (storm_unopened g.C.Rack.tells g.S.Suite.meaning c.args.setup.now c.args.count c.args.node.now tally_takes c.in_err-go_round.field-0.0 c.go_round.new.node
    c.args.tally.now c.go_round.new.receiver (tally_never_fails c.in_err-go_round.field-0.0 (λ same. c.in_err-go_round.ensures.receiver.fault (ap Err same)))
    (subst (λ (acts : List Act). Breaks g.C.Rack.tells g.S.Suite.meaning acts c.in_err-go_round.field-0.0 c.args.node.now c.go_round.new.node
    (λ lines. c.go_round.new.receiver ≡ fold tallied c.args.tally.now lines) (λ lines. c.go_round.new.receiver ≡ fold tallied c.args.tally.now lines))
    (opened_first c.args.setup.now) c.in_err-go_round.ensures.serves))

pub packets-init : goal.packets-init
packets-init g c = record {
  progress = progress_at g.C.Rack.tells g.S.Suite.meaning c.args.setup.now c.args.count c.args.count (c.args.count - 0) 0 (making_at (g.W.Words.to_come c.args.maker.now.words) c.args.maker.now.last)
      c.args.node.now c.go_round.new.node (λ lines. c.go_round.new.receiver ≡ fold tallied c.args.tally.now lines) (omega arith)
      (storm_begins g.C.Rack.tells g.S.Suite.meaning c.args.setup.now c.args.count c.args.node.now tally_takes (g.W.Words.to_come c.args.maker.now.words) c.args.maker.now.last
      c.go_round.new.node c.args.tally.now c.go_round.new.receiver c.requires.maker
      (subst (λ (acts : List Act). Goes g.C.Rack.tells g.S.Suite.meaning acts c.args.node.now c.go_round.new.node (λ lines. c.go_round.new.receiver ≡ fold tallied c.args.tally.now lines))
      (opened_first c.args.setup.now) c.in_ok-go_round.ensures.serves));
  node = c.go_round.ensures.goes_on;
}

pub returns-in_err-serve_packet-in-Ok-clause-stops : goal.returns-in_err-serve_packet-in-Ok-clause-stops
returns-in_err-serve_packet-in-Ok-clause-stops g c =
    let p = err_from_is_err_and c.from_residual-in_err-serve_packet-in-Ok.result c.from_residual-in_err-serve_packet-in-Ok.ensures.1 in
    rw (p.1, p.2) (storm_broken g.C.Rack.tells g.S.Suite.meaning c.args.setup.now c.args.count c.args.node.now tally_takes (c.args.count - (c.packets.number + 1)) c.packets.number
    (making_at (g.W.Words.to_come c.packets.maker.words) c.packets.maker.last) (making_at (g.W.Words.to_come c.next_packet.new.self.words) c.next_packet.new.self.last)
    c.in-Ok.packet c.in_err-serve_packet-in-Ok.field-0.0 c.packets.node c.serve_packet.new.node c.args.tally.now c.packets.tally c.serve_packet.new.tally
    (λ same. c.in_err-serve_packet-in-Ok.ensures.never_writes (ap Err same))
    (progress_at g.C.Rack.tells g.S.Suite.meaning c.args.setup.now c.args.count (c.args.count - c.packets.number) (suc (c.args.count - (c.packets.number + 1))) c.packets.number
    (making_at (g.W.Words.to_come c.packets.maker.words) c.packets.maker.last) c.args.node.now c.packets.node (λ lines. c.packets.tally ≡ fold tallied c.args.tally.now lines)
    (omega (arith, c.packets-test.true)) c.packets.invariant.progress)
    c.in-Ok.ensures.packet c.in_err-serve_packet-in-Ok.ensures.serves)

pub returns-in-Err-clause-stops : goal.returns-in-Err-clause-stops
returns-in-Err-clause-stops g c =
    rw c.key_status.ensures (keyless_stops g.C.Rack.tells g.S.Suite.meaning c.args.setup.now c.args.count c.args.node.now tally_takes (c.args.count - (c.packets.number + 1)) c.packets.number
    c.in-Err.fault (making_at (g.W.Words.to_come c.packets.maker.words) c.packets.maker.last) c.packets.node c.args.tally.now c.packets.tally
    (progress_at g.C.Rack.tells g.S.Suite.meaning c.args.setup.now c.args.count (c.args.count - c.packets.number) (suc (c.args.count - (c.packets.number + 1))) c.packets.number
    (making_at (g.W.Words.to_come c.packets.maker.words) c.packets.maker.last) c.args.node.now c.packets.node (λ lines. c.packets.tally ≡ fold tallied c.args.tally.now lines)
    (omega (arith, c.packets-test.true)) c.packets.invariant.progress)
    c.in-Err.ensures.no_key c.in-Err.ensures.none)

pub packets-preserved : goal.packets-preserved
packets-preserved g c = record {
  progress = storm_goes_on g.C.Rack.tells g.S.Suite.meaning c.args.setup.now c.args.count c.args.node.now tally_takes (c.args.count - (c.packets.number + 1)) c.packets.number
      (making_at (g.W.Words.to_come c.packets.maker.words) c.packets.maker.last) (making_at (g.W.Words.to_come c.next_packet.new.self.words) c.next_packet.new.self.last)
      c.in-Ok.packet c.packets.node c.serve_packet.new.node c.args.tally.now c.packets.tally c.serve_packet.new.tally
      (progress_at g.C.Rack.tells g.S.Suite.meaning c.args.setup.now c.args.count (c.args.count - c.packets.number) (suc (c.args.count - (c.packets.number + 1))) c.packets.number
      (making_at (g.W.Words.to_come c.packets.maker.words) c.packets.maker.last) c.args.node.now c.packets.node (λ lines. c.packets.tally ≡ fold tallied c.args.tally.now lines)
      (omega (arith, c.packets-test.true)) c.packets.invariant.progress)
      c.in-Ok.ensures.packet c.in_ok-serve_packet-in-Ok.ensures.serves;
  node = record {
    node = record { setup = c.serve_packet.ensures.goes_on.node.setup ∙ c.packets.invariant.node.node.setup; kept = c.serve_packet.ensures.goes_on.node.kept };
    next = omega (arith, c.serve_packet.ensures.goes_on.next, c.packets.invariant.node.next);
  };
}

pub returns-clause-served : goal.returns-clause-served
returns-clause-served g c = (
  making_at (g.W.Words.to_come c.packets.maker.words) c.packets.maker.last,
  progress_ended g.C.Rack.tells g.S.Suite.meaning c.args.setup.now c.args.count (c.args.count - c.packets.number) c.packets.number (making_at (g.W.Words.to_come c.packets.maker.words) c.packets.maker.last)
      c.args.node.now c.packets.node (λ lines. c.packets.tally ≡ fold tallied c.args.tally.now lines) (omega (arith, c.packets-test.false, c.packets.auto.number-end))
      (omega (arith, c.packets-test.false, c.packets.auto.number-end)) c.packets.invariant.progress,
)
