-- The events of a script of `drive`: what each line behind the node line says, if it is in the grammar.
use Rattle.std.specs.Prelude.{⊤, ℕ, ◌-◌, ◌^◌, ◌<◌, if◌then◌else◌, List, Option, Some, None, codes}
use Rattle.std.specs.Str.{bytes_eq}
use Rattle.mix_base.specs.Options.{◌>>=◌}
use Rattle.packet_form.specs.Geometry.{IsWithin}
use Rattle.lab_text.specs.Words.{words_of, number_in, number_below, bytes_of, last_moment}
use Rattle.lab_text.specs.WordForms.{only_word, both_words, said_words}
use Rattle.lab_text.specs.declared.events.Event.{Event}
use Rattle.lab_text.specs.declared.events.Event.TheVariants.{Recv, Peel, Claim, Send, Rotate, Arm, Crash, Skip}

-- a moment in milliseconds
abbrev pub moment_of : List ℕ → Option ℕ
moment_of word = number_in 0 last_moment word

-- a moment as the only word
abbrev pub only_moment : List (List ℕ) → Option ℕ
only_moment words = only_word words >>= moment_of

-- one of four workers as the only word
abbrev pub only_worker : List (List ℕ) → Option ℕ
only_worker words = only_word words >>= number_in 0 3

-- what the words behind `recv` say: a packet arrives at a moment
abbrev pub recv_of : List (List ℕ) → Option Event
recv_of words = do
  both ← both_words words
  moment ← moment_of both.0
  packet ← bytes_of both.1
  Some (Recv moment packet)

-- what those behind `peel` say: a worker unwraps the oldest arrival
abbrev pub peel_of : List (List ℕ) → Option Event
peel_of words = do
  worker ← only_worker words
  Some (Peel worker)

-- what those behind `claim` say: a worker claims the tag of its packet
abbrev pub claim_of : List (List ℕ) → Option Event
claim_of words = do
  worker ← only_worker words
  Some (Claim worker)

-- what those behind `send` say: a packet that is due at a moment is handed on
abbrev pub send_of : List (List ℕ) → Option Event
send_of words = do
  moment ← only_moment words
  Some (Send moment)

-- what those behind `rotate` say: each shard retires the epochs that are no longer live at a moment
abbrev pub rotate_of : List (List ℕ) → Option Event
rotate_of words = do
  moment ← only_moment words
  Some (Rotate moment)

-- what those behind `arm` say, in a node of so many shards: the disk of one of them fails at a call, counted from now
abbrev pub arm_of : ℕ → List (List ℕ) → Option Event
arm_of shards words = do
  both ← both_words words
  shard ← number_below shards both.0
  calls ← number_in 1 (2 ^ 32) both.1
  Some (Arm shard calls)

-- what those behind `crash` say: every disk crashes, and this number picks what is left of each
abbrev pub crash_of : List (List ℕ) → Option Event
crash_of words = do
  pick ← only_word words >>= number_in 0 (2 ^ 64 - 1)
  Some (Crash pick)

-- what a line without a packet says by its first word, in a node of so many shards
abbrev pub without_packet : ℕ → List ℕ → List (List ℕ) → Option Event
without_packet shards first words =
    if bytes_eq first (codes "peel") then peel_of words
    else if bytes_eq first (codes "claim") then claim_of words
    else if bytes_eq first (codes "send") then send_of words
    else if bytes_eq first (codes "rotate") then rotate_of words
    else if bytes_eq first (codes "arm") then arm_of shards words
    else if bytes_eq first (codes "crash") then crash_of words
    else None

-- what a line says by its first word and those behind it, where it says something; else it is skipped
abbrev pub said_by : ℕ → Option (List ℕ × List (List ℕ)) → Option Event
said_by shards None = Some Skip
said_by shards (Some parts) =
    if bytes_eq parts.0 (codes "recv") then recv_of parts.1 else without_packet shards parts.0 parts.1

-- what the words of a line say
abbrev pub said_in : ℕ → List (List ℕ) → Option Event
said_in shards words = said_by shards (said_words words)

-- the event of a line, in a node of so many shards
abbrev pub event_of : ℕ → List ℕ → Option Event
event_of shards line = said_in shards (words_of line)

-- the numbers of an event, in a node of so many shards
abbrev pub IsEventInRange : ℕ → Event → Type 0
IsEventInRange shards (Recv moment packet) = moment < 2 ^ 60
IsEventInRange shards (Peel worker) = worker < 4
IsEventInRange shards (Claim worker) = worker < 4
IsEventInRange shards (Send moment) = moment < 2 ^ 60
IsEventInRange shards (Rotate moment) = moment < 2 ^ 60
IsEventInRange shards (Arm shard calls) = (shard < shards) × IsWithin 1 (2 ^ 32) calls
IsEventInRange shards (Crash pick) = pick < 2 ^ 64
IsEventInRange shards Skip = ⊤
