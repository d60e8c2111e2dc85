use Rattle.std.proofs.Common.{◌≡◌, fold}
use Rattle.mix_top.specs.Acts.{Sends, of_each}
use Rattle.mix_top.specs.Progress.{GoesOn, Goes}
use Rattle.mix_top.specs.Storm.{moment_of}
use Rattle.mix_top.specs.Tallies.{tallied}
use Rattle.mix_top.proofs.storm.running.send_rest.Given as goal

-- so many packets were handed on, or none was due
abbrev pub invariant-sends : goal.invariant-sends
invariant-sends g l = record {
  goes : Goes g.C.Rack.tells g.S.Suite.meaning (of_each (λ place. Sends (moment_of l.count)) 0 l._place) l.initial.node l.node
      (λ lines. l.tally ≡ fold tallied l.initial.tally lines);
  node : GoesOn g.C.Rack.tells g.S.Suite.meaning l._place l.initial.node l.node;
}
