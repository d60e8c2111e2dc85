-- The settings of a run, as they are read from a source.
use Rattle.std.specs.Prelude.{◌≡◌, ⊤, ℕ, ◌≤◌, List, [], ◌++◌, length, Option, IfSome, Result, Ok, Err}
use Rattle.lab_text.specs.Settings.{ReadsConfig}
use Rattle.lab_text.specs.declared.settings.Config.{Config}
use Rattle.lab_text.specs.declared.settings.ConfigFault.TheVariants.{BadConfig}
use Rattle.lab_text.specs.declared.statuses.Status.{Status}
use Rattle.lab_text.specs.declared.statuses.Status.TheVariants as statuses

-- what was read of a source's bytes: the front of them, and all of them where it isn't longer than settings may be
pub record HasFront (before text after : List ℕ) : Type 0 where
  pub front : before ≡ text ++ after
  pub all : length text ≤ 65536 → after ≡ []

-- what an answer says of a text of settings: these are they, or the first place that is bad
abbrev pub SaysOf : List ℕ → Result Config Status → Type 0
SaysOf text (Ok config) = ReadsConfig text (Ok config)
SaysOf text (Err (statuses.Key key)) = ReadsConfig text (Err (BadConfig key))
SaysOf text (Err _) = ⊤

-- there is a text of which the answer says so, and it is all that the source had left, where it tells that
pub record ReadsSettings (left : Option (List ℕ)) (answer : Result Config Status) : Type 0 where
  pub text : List ℕ
  pub told : IfSome left (λ bytes. bytes ≡ text)
  pub says : SaysOf text answer

-- how a reading ends that gives no text
abbrev pub StopsText : Status → Type 0
StopsText statuses.ReadFault = ⊤
StopsText statuses.Memory = ⊤
StopsText _ = ⊥

-- and one that gives no settings
abbrev pub StopsReading : Status → Type 0
StopsReading (statuses.Key key) = ⊤
StopsReading statuses.ReadFault = ⊤
StopsReading statuses.Memory = ⊤
StopsReading _ = ⊥
