-- The lines behind a script's node line as what they ask for: events with the numbers of their lines, and how it ends.
use Rattle.std.specs.Prelude.{ℕ, ◌+◌, List, [], ◌∷◌, Option, Some, None}
use Rattle.lab_text.specs.Events.{event_of}
use Rattle.lab_text.specs.Lines.{ScriptLine, Text, TooLong}
use Rattle.lab_text.specs.declared.events.Event.{Event}

-- where a script ends
pub data Ending : Type 0 where
  AtEnd : Ending
  -- before the line of this number, which is outside the grammar
  Outside : (line : ℕ) → Ending

-- events with the numbers of their lines, and how the script ends behind them
pub record Events : Type 0 where
  pub list : List (ℕ × Event)
  pub ending : Ending

-- no event before the end
abbrev pub ends : Ending → Events
ends ending = record { list = []; ending = ending }

-- an event, with the number of its line, in front of others
abbrev pub in_front : ℕ × Event → Events → Events
in_front event others = record { list = event ∷ others.list; ending = others.ending }

-- the events of the line of this number and of those behind it
abbrev pub then_event : ℕ → Option Event → Events → Events
then_event number None others = ends (Outside number)
then_event number (Some event) others = in_front (number, event) others

-- the events of lines, the first of which has this number, in a node of so many shards: up to the first line that is
-- outside the grammar
abbrev pub events_from : ℕ → ℕ → List ScriptLine → Events
events_from shards number [] = ends AtEnd
events_from shards number (TooLong ∷ lines) = ends (Outside number)
events_from shards number (Text line ∷ lines) =
    then_event number (event_of shards line) (events_from shards (number + 1) lines)
