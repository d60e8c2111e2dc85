use Rattle.std.proofs.Common.{◌∙◌}
use Rattle.mix_waves.proofs.Draws.{more_taken, one_delay}
use Rattle.mix_waves.proofs.drawing.draw_delays.Goals as goal

pub delays-preserved : goal.delays-preserved
delays-preserved g c =
    let before = g.W.Words.to_come c.args.words.now in
    let now = g.W.Words.to_come c.delays.words in
    let after = g.W.Words.to_come c.draw_delay.new.words in
    let draw = c.args.draw.now in (
      c.in_ok-push.ensures.items
          ∙ one_delay draw before now after c.delays._place c.draw_delay.result c.delays.delays.items c.delays.invariant.0 c.delays.invariant.1 c.draw_delay.ensures.value,
      more_taken draw before now after c.delays._place c.delays.invariant.1 c.draw_delay.ensures.words,
    )
