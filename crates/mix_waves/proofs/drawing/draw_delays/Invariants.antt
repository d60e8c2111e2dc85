use Rattle.std.proofs.Common.{◌≡◌}
use Rattle.mix_base.specs.WordStreams.{SkipsWords}
use Rattle.mix_waves.specs.Drawing.{delays_from, delays_taken}
use Rattle.mix_waves.proofs.drawing.draw_delays.Given as goal

-- so many delays were drawn
abbrev pub invariant-delays : goal.invariant-delays
invariant-delays g l =
    let before = g.W.Words.to_come l.initial.words in
    (l.delays.items ≡ delays_from l.draw before l._place) × SkipsWords (delays_taken l.draw before l._place) before (g.W.Words.to_come l.words)
