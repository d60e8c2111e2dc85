-- A request that was read, or where its input stops, as what a command owes.
use Rattle.std.proofs.Common.{◌≡◌, ℕ, ◌+◌, List, [], ◌∷◌, ◌++◌, inl, refl, ap, ◌∙◌, sym, subst, Option, Some, None, Err, IfSome, option_map}
use Rattle.std.proofs.lemmas.List.{append-nil}
use Rattle.lab_text.specs.Lines.{ScriptLine, Text, lines_from}
use Rattle.lab_text.specs.Readers.{GivesLine, coming, lines_given}
use Rattle.lab_text.specs.Words.{words_of}
use Rattle.lab_text.specs.declared.lines.LineReader.{LineReader}
use Rattle.lab_text.specs.declared.statuses.Status.{Status}
use Rattle.lab_text.specs.declared.statuses.Status.TheVariants.{Done, Words, Line, Key, ReadFault, WriteFault, Foreign, OtherShape, Memory, NoThread, NoKey, NoLine, Disk}
use Rattle.mix_base.specs.declared.reading.Source.{Ghosts}
use Rattle.mix_tools.specs.Answers.{Answers, AnswersOutcome, EndsTool, Explains, IfKeyless}
use Rattle.lab_text.specs.Outcomes.{EndsReading, Outcome, Says, Reads, ◌>>=◌}
use Rattle.mix_tools.specs.Drafts.{draft_behind}
use Rattle.mix_tools.specs.Reading.{request_from, request_of, request_to_come}
use Rattle.mix_tools.specs.Texts.{answer_to, request_answer}
use Rattle.mix_tools.specs.declared.requests.Draft.{Draft}
use Rattle.mix_tools.specs.declared.requests.Request.{Request}

-- at the start of an input the request to come is that of the whole input
pub request_at_start : {I : Type 0} {G : Ghosts I} (reader : LineReader I G) (draft : Draft) (left : Option (List ℕ))
    → lines_given reader ≡ 0 → coming reader ≡ option_map (lines_from 0) left
    → request_to_come reader draft ≡ option_map (request_of draft) left
request_at_start reader draft None first lines =
    ap (λ (number : ℕ). option_map (λ l. request_from l (number + 1) draft) (coming reader)) first ∙ ap (option_map (λ l. request_from l 1 draft)) lines
request_at_start reader draft (Some text) first lines =
    ap (λ (number : ℕ). option_map (λ l. request_from l (number + 1) draft) (coming reader)) first ∙ ap (option_map (λ l. request_from l 1 draft)) lines

-- the input stops, and nothing was given
nothing_given : (outcome : Outcome Request) (given : List ℕ) (status : Status) → Reads {A = Request} outcome (Err status) → EndsReading status
    → (bytes : List ℕ) × (given ≡ given ++ bytes) × Answers (answer_to outcome) status bytes
nothing_given outcome given (Line line) reads ends = ([], sym (append-nil given), (ap answer_to reads, refl))
nothing_given outcome given ReadFault reads ends = ([], sym (append-nil given), refl)
nothing_given outcome given Memory reads ends = ([], sym (append-nil given), inl refl)
nothing_given outcome given Done reads ends = absurd reads
nothing_given outcome given Words reads ends = absurd reads
nothing_given outcome given (Key key) reads ends = absurd reads
nothing_given outcome given NoThread reads ends = absurd reads
nothing_given outcome given NoLine reads ends = absurd reads
nothing_given outcome given (Disk node shard) reads ends = absurd reads
nothing_given outcome given WriteFault reads ends = absurd reads
nothing_given outcome given (Foreign node shard area at) reads ends = absurd reads
nothing_given outcome given (OtherShape node shard stored asked) reads ends = absurd reads
nothing_given outcome given (NoKey epoch) reads ends = absurd ends

pub answers_from_stop : (draft : Draft) (left given : Option (List ℕ)) (status : Status)
    → IfSome (option_map (request_of draft) left) (λ outcome. Reads {A = Request} outcome (Err status))
    → EndsReading status
    → AnswersOutcome (option_map (λ text. answer_to (request_of draft text)) left) given given status
answers_from_stop draft None given status reads ends = tt
answers_from_stop draft (Some text) None status reads ends = tt
answers_from_stop draft (Some text) (Some bytes) status reads ends = nothing_given (request_of draft text) bytes status reads ends

-- a request was read, and its text is what was owed
pub answers_from_request : (draft : Draft) (request : Request) (left before after : Option (List ℕ)) (status : Status)
    → IfSome (option_map (request_of draft) left) (λ outcome. outcome ≡ Says request)
    → AnswersOutcome (Some (Says (request_answer request))) before after status
    → AnswersOutcome (option_map (λ text. answer_to (request_of draft text)) left) before after status
answers_from_request draft request None before after status reads gives = tt
answers_from_request draft request (Some text) before after status reads gives =
    subst (λ (outcome : Outcome (List ℕ)). AnswersOutcome (Some outcome) before after status) (sym (ap answer_to reads)) gives

-- ---- the cause of a status

stop_explained : (outcome : Outcome Request) (status : Status) → Reads {A = Request} outcome (Err status) → EndsReading status
    → Explains (answer_to outcome) status
stop_explained outcome (Line line) reads ends = ap answer_to reads
stop_explained outcome ReadFault reads ends = tt
stop_explained outcome Memory reads ends = tt
stop_explained outcome Done reads ends = absurd reads
stop_explained outcome Words reads ends = absurd reads
stop_explained outcome (Key key) reads ends = absurd reads
stop_explained outcome NoThread reads ends = absurd reads
stop_explained outcome NoLine reads ends = absurd reads
stop_explained outcome (Disk node shard) reads ends = absurd reads
stop_explained outcome WriteFault reads ends = absurd reads
stop_explained outcome (Foreign node shard area at) reads ends = absurd reads
stop_explained outcome (OtherShape node shard stored asked) reads ends = absurd reads
stop_explained outcome (NoKey epoch) reads ends = absurd ends

pub explained_from_stop : (draft : Draft) (left : Option (List ℕ)) (status : Status)
    → IfSome (option_map (request_of draft) left) (λ outcome. Reads {A = Request} outcome (Err status))
    → EndsReading status
    → IfSome (option_map (λ text. answer_to (request_of draft text)) left) (λ outcome. Explains outcome status)
explained_from_stop draft None status reads ends = tt
explained_from_stop draft (Some text) status reads ends = stop_explained (request_of draft text) status reads ends

pub explained_from_request : (draft : Draft) (request : Request) (left : Option (List ℕ)) (status : Status)
    → IfSome (option_map (request_of draft) left) (λ outcome. outcome ≡ Says request)
    → Explains (Says (request_answer request)) status
    → IfSome (option_map (λ text. answer_to (request_of draft text)) left) (λ outcome. Explains outcome status)
explained_from_request draft request None status reads explains = tt
explained_from_request draft request (Some text) status reads explains =
    subst (λ (outcome : Outcome (List ℕ)). Explains outcome status) (sym (ap answer_to reads)) explains

-- a command may end with all that reading may end with
pub ends_tool : (status : Status) → EndsReading status → EndsTool status
ends_tool (Line line) ends = tt
ends_tool ReadFault ends = tt
ends_tool Memory ends = tt
ends_tool Done ends = absurd ends
ends_tool Words ends = absurd ends
ends_tool (Key key) ends = absurd ends
ends_tool NoThread ends = absurd ends
ends_tool NoLine ends = absurd ends
ends_tool (Disk node shard) ends = absurd ends
ends_tool WriteFault ends = absurd ends
ends_tool (Foreign node shard area at) ends = absurd ends
ends_tool (OtherShape node shard stored asked) ends = absurd ends
ends_tool (NoKey epoch) ends = absurd ends

-- and reading never ends with an epoch without a key
pub keyed_reading : (status : Status) → EndsReading status → IfKeyless status (λ epoch. ⊥)
keyed_reading (Line line) ends = tt
keyed_reading ReadFault ends = tt
keyed_reading Memory ends = tt
keyed_reading Done ends = absurd ends
keyed_reading Words ends = absurd ends
keyed_reading (Key key) ends = absurd ends
keyed_reading NoThread ends = absurd ends
keyed_reading NoLine ends = absurd ends
keyed_reading (Disk node shard) ends = absurd ends
keyed_reading WriteFault ends = absurd ends
keyed_reading (Foreign node shard area at) ends = absurd ends
keyed_reading (OtherShape node shard stored asked) ends = absurd ends
keyed_reading (NoKey epoch) ends = absurd ends

-- ---- a line at which reading stops

-- what stops one step stops it with any other behind it
stops_on : {A B : Type 0} (outcome : Outcome A) (next : A → Outcome B) (status : Status) → Reads {A = A} outcome (Err status) → Reads {A = B} (outcome >>= next) (Err status)
stops_on outcome next (Line line) reads = ap (λ step. step >>= next) reads
stops_on outcome next ReadFault reads = tt
stops_on outcome next Memory reads = tt
stops_on outcome next Done reads = absurd reads
stops_on outcome next Words reads = absurd reads
stops_on outcome next (Key key) reads = absurd reads
stops_on outcome next NoThread reads = absurd reads
stops_on outcome next NoLine reads = absurd reads
stops_on outcome next (Disk node shard) reads = absurd reads
stops_on outcome next WriteFault reads = absurd reads
stops_on outcome next (Foreign node shard area at) reads = absurd reads
stops_on outcome next (OtherShape node shard stored asked) reads = absurd reads
stops_on outcome next (NoKey epoch) reads = ap (λ step. step >>= next) reads

pub stops_at_line : (whole : Option (Outcome Request)) (before after : Option (List ScriptLine)) (given number : ℕ) (draft : Draft) (line : List ℕ) (status : Status)
    → IfSome whole (λ outcome. option_map (λ lines. request_from lines (given + 1) draft) before ≡ Some outcome)
    → GivesLine before after line → number ≡ given + 1 → Reads {A = Draft} (draft_behind number draft (words_of line)) (Err status)
    → IfSome whole (λ outcome. Reads {A = Request} outcome (Err status))
stops_at_line None before after given number draft line status same gives next reads = tt
stops_at_line (Some outcome) None after given number draft line status same gives next reads = absurd (cc)
stops_at_line (Some outcome) (Some lines) None given number draft line status same gives next reads = absurd gives
stops_at_line (Some outcome) (Some lines) (Some rest) given number draft line status same gives next reads =
    let read : Reads {A = Draft} (draft_behind (given + 1) draft (words_of line)) (Err status) = subst (λ (k : ℕ). Reads {A = Draft} (draft_behind k draft (words_of line)) (Err status)) next reads in
    let all : outcome ≡ request_from lines (given + 1) draft = cc in
    let first : request_from lines (given + 1) draft ≡ request_from (Text line ∷ rest) (given + 1) draft = ap (λ (l : List ScriptLine). request_from l (given + 1) draft) gives in
    subst (λ (o : Outcome Request). Reads {A = Request} o (Err status)) (sym (all ∙ first))
    (stops_on (draft_behind (given + 1) draft (words_of line)) (request_from rest (given + 1 + 1)) status read)
