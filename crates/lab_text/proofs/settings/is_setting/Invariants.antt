use Rattle.std.proofs.Common.{◌≡◌, ℕ, ◌<◌, false}
use Rattle.std.specs.Str.{bytes_eq}
use Rattle.lab_text.specs.Settings.{key_name}
use Rattle.lab_text.proofs.settings.is_setting.Given as goal

-- the key is none of those at the places before this one
abbrev pub invariant-places : goal.invariant-places
invariant-places l = (k : ℕ) → 0 < k → k < l.place → bytes_eq (key_name k) l.key ≡ false
