use Rattle.std.proofs.Common.{List, ℕ, subst}
use Rattle.net_run.specs.Reading.{SaysOf}
use Rattle.net_run.proofs.Texts.{as_read, at_end, unread}
use Rattle.net_run.proofs.reading.read_settings.Goals as goal

pub returns-in-Ok-clause-exact : goal.returns-in-Ok-clause-exact
returns-in-Ok-clause-exact g c =
    as_read (g.I.Source.left c.args.source.now) (g.I.Source.left c.read_text.new.source) c.in-Ok.text.items c.settings_in.result c.in-Ok.ensures.text
    (subst (λ (text : List ℕ). SaysOf text c.settings_in.result) c.deref.ensures.value c.settings_in.ensures.says)

pub returns-in-Ok-clause-end : goal.returns-in-Ok-clause-end
returns-in-Ok-clause-end g c =
    at_end (g.I.Source.left c.args.source.now) (g.I.Source.left c.read_text.new.source) c.in-Ok.text.items c.settings_in.result c.in-Ok.ensures.text
    (subst (λ (text : List ℕ). SaysOf text c.settings_in.result) c.deref.ensures.value c.settings_in.ensures.says)

pub returns-in-Err-clause-exact : goal.returns-in-Err-clause-exact
returns-in-Err-clause-exact g c = unread (g.I.Source.left c.args.source.now) c.in-Err.status c.in-Err.ensures.kind
