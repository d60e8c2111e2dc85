-- What a call of a command owes: a text, by how the call ends, and what it leaves as it was.
use Rattle.std.specs.Prelude.{◌≡◌, ⊤, ℕ, ◌⊎◌, List, [], take, Option, None, IfSome}
use Rattle.epoch_keys.specs.Keys.{epoch_public_key}
use Rattle.lab_text.specs.Given.{Gave}
use Rattle.lab_text.specs.Outcomes.{Outcome, Says, Outside, Keyless}
use Rattle.lab_text.specs.Readers.{ReachesEnd}
use Rattle.lab_text.specs.declared.statuses.Status.{Status}
use Rattle.lab_text.specs.declared.statuses.Status.TheVariants.{Done, Words, Line, ReadFault, WriteFault, Memory, NoKey}
use Rattle.mix_tools.specs.Suites.{scheme_for}
use Rattle.mix_tools.specs.Texts.{owed}
use Rattle.mix_tools.specs.declared.commands.Command.{Command}
use Rattle.mix_tools.specs.declared.commands.Command.TheVariants.{Keys, Make, Answer, Open}

-- a text is owed
abbrev pub IsSaid : Outcome (List ℕ) → Type 0
IsSaid (Says text) = ⊤
IsSaid (Outside line) = ⊥
IsSaid (Keyless epoch) = ⊥

-- what a status says of the input, whatever the sink tells: after Done and WriteFault a text was owed, Line names the
-- line at which the input stops, and NoKey the epoch that has no key
abbrev pub Explains : Outcome (List ℕ) → Status → Type 0
Explains outcome Done = IsSaid outcome
Explains outcome (Line line) = outcome ≡ Outside line
Explains outcome (NoKey epoch) = outcome ≡ Keyless epoch
Explains outcome WriteFault = IsSaid outcome
Explains outcome ReadFault = ⊤
Explains outcome Memory = ⊤
Explains outcome _ = ⊥

-- the bytes are a front of the text that is owed
abbrev pub IsFront : Outcome (List ℕ) → List ℕ → Type 0
IsFront outcome bytes = (text : List ℕ) × (count : ℕ) × (outcome ≡ Says text) × (bytes ≡ take count text)

-- a call that ends so and gave these bytes: after Done they are the text; after Line the input stops at that line, after
-- NoKey that epoch has no key, and nothing was given; a faulty input is answered by nothing, and a sink that failed was
-- given a front
abbrev pub Answers : Outcome (List ℕ) → Status → List ℕ → Type 0
Answers outcome Done bytes = outcome ≡ Says bytes
Answers outcome (Line line) bytes = (outcome ≡ Outside line) × (bytes ≡ [])
Answers outcome (NoKey epoch) bytes = (outcome ≡ Keyless epoch) × (bytes ≡ [])
Answers outcome ReadFault bytes = bytes ≡ []
Answers outcome WriteFault bytes = IsFront outcome bytes
Answers outcome Memory bytes = (bytes ≡ []) ⊎ IsFront outcome bytes
Answers outcome _ bytes = ⊥

-- the same, where the outcome is known and the sink tells what it was given
abbrev pub AnswersOutcome : Option (Outcome (List ℕ)) → Option (List ℕ) → Option (List ℕ) → Status → Type 0
AnswersOutcome outcome before after status =
    IfSome outcome (λ told. Gave before after (λ bytes. Answers told status bytes))

-- a command answered its input
abbrev pub AnswersCommand : Command → Option (List ℕ) → Option (List ℕ) → Option (List ℕ) → Status → Type 0
AnswersCommand command left before after status = AnswersOutcome (owed command left) before after status

-- a status says of a command's input what is true, where the input is told
abbrev pub ExplainsInput : Command → Option (List ℕ) → Status → Type 0
ExplainsInput command left status = IfSome (owed command left) (λ outcome. Explains outcome status)

-- what a command ends with: never what is said of words, of settings, of a journal or its disk, or of a running node
abbrev pub EndsTool : Status → Type 0
EndsTool Done = ⊤
EndsTool (Line line) = ⊤
EndsTool (NoKey epoch) = ⊤
EndsTool ReadFault = ⊤
EndsTool WriteFault = ⊤
EndsTool Memory = ⊤
EndsTool _ = ⊥

-- a fact of the epoch that a status says has no key
abbrev pub IfKeyless : Status → (ℕ → Type 0) → Type 0
IfKeyless (NoKey epoch) fact = fact epoch
IfKeyless _ fact = ⊤

-- an epoch is the one that a command is to give the key of, and its words make no pair; only `keys` gives one
abbrev pub HasNoKey : Command → ℕ → Type 0
HasNoKey (Keys ntru seed epoch) named =
    (named ≡ epoch) × (epoch_public_key (scheme_for ntru) seed epoch ≡ None)
HasNoKey Make named = ⊥
HasNoKey Answer named = ⊥
HasNoKey Open named = ⊥

-- the sink is as it was, but after Done, Words, WriteFault and Memory
abbrev pub IsUnwritten : {O : Type 0} → Status → O → O → Type 0
IsUnwritten Done old new = ⊤
IsUnwritten Words old new = ⊤
IsUnwritten WriteFault old new = ⊤
IsUnwritten Memory old new = ⊤
IsUnwritten _ old new = new ≡ old

-- `keys` leaves its source as it was
abbrev pub IsReadBy : {I : Type 0} → Command → I → I → Type 0
IsReadBy (Keys ntru seed epoch) old new = new ≡ old
IsReadBy Make old new = ⊤
IsReadBy Answer old new = ⊤
IsReadBy Open old new = ⊤

-- how a command leaves its source: `keys` reads nothing of it, and the others read it to its end
abbrev pub EndsInput : Command → Option (List ℕ) → Option (List ℕ) → Type 0
EndsInput (Keys ntru seed epoch) before after = after ≡ before
EndsInput Make before after = ReachesEnd before after
EndsInput Answer before after = ReachesEnd before after
EndsInput Open before after = ReachesEnd before after
