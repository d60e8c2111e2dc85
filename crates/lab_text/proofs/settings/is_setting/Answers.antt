use Rattle.std.proofs.Common.{◌≡◌, ℕ, ◌<◌, true, false, List, sym, subst, ◌∙◌, arith, below_more}
use Rattle.std.specs.Str.{bytes_eq}
use Rattle.lab_text.specs.Settings.{key_name}
use Rattle.lab_text.proofs.SettingKeys.{stands_at, stands_nowhere}
use Rattle.lab_text.proofs.settings.is_setting.Goals as goal

pub places-preserved : goal.places-preserved
places-preserved c = λ k some below.
    below_more (λ (j : ℕ). 0 < j → bytes_eq (key_name j) c.args.key.now ≡ false) c.places.place (λ j before some. c.places.invariant j some before)
    (λ some. subst (λ (name : List ℕ). bytes_eq name c.args.key.now ≡ false) c.key_name.ensures (sym c.eq.ensures ∙ c.if-eq.false)) k below some

pub returns-then-eq : goal.returns-then-eq
returns-then-eq c =
    sym (stands_at c.places.place c.args.key.now (omega arith) c.places-test.true
    (subst (λ (name : List ℕ). bytes_eq name c.args.key.now ≡ true) c.key_name.ensures (sym c.eq.ensures ∙ c.if-eq.true)))

pub returns : goal.returns
returns c = sym (stands_nowhere c.args.key.now (λ place some below. c.places.invariant place some (omega (arith, below))))
