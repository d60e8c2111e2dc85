use Rattle.std.proofs.Common.{◌≡◌, ◌-◌, ◌*◌, fold}
use Rattle.mix_top.specs.Progress.{GoesOn}
use Rattle.mix_top.specs.Storming.{StormProgress, making_at}
use Rattle.mix_top.specs.Tallies.{tallied}
use Rattle.mix_top.proofs.storm.running.serve_packets.Given as goal

-- the packets before this one were served
abbrev pub invariant-packets : goal.invariant-packets
invariant-packets g l = record {
  progress : StormProgress g.C.Rack.tells g.S.Suite.meaning l.setup l.count (l.count - l.number) l.number (making_at (g.W.Words.to_come l.maker.words) l.maker.last)
      l.fn.node l.node (λ lines. l.tally ≡ fold tallied l.fn.tally lines);
  node : GoesOn g.C.Rack.tells g.S.Suite.meaning (5 * l.number) l.fn.node l.node;
}
