use Rattle.std.proofs.Common.{◌≡◌, ◌∙◌, rules}
use Rattle.sphinx_make.proofs.Counting.{drawn_delay-capped, drawn_delay-counted, none_in_vain}
use Rattle.sphinx_make.specs.Drawing.{drawn_delay}
use Rattle.sphinx_make.proofs.drawing.draw_delay.Goals as goal

pub returns-clause-counted : goal.returns-clause-counted
returns-clause-counted g c = λ count first.
    let words = g.W.Words.to_come c.args.words.now in
    let value : c.min.result ≡ drawn_delay c.args.draw.now words = search rules in
    value ∙ drawn_delay-counted c.args.draw.now words count c.requires.unit first

pub returns-clause-capped : goal.returns-clause-capped
returns-clause-capped g c = λ before.
    let words = g.W.Words.to_come c.args.words.now in
    let value : c.min.result ≡ drawn_delay c.args.draw.now words = search rules in
    value ∙ drawn_delay-capped c.args.draw.now words c.requires.unit before

pub returns-clause-needed : goal.returns-clause-needed
returns-clause-needed g c = none_in_vain c.args.draw.now (g.W.Words.to_come c.args.words.now) c.requires.unit
