-- A whole text: its lines one after the other, up to the first that stops, and what they say together.
use Rattle.std.specs.Prelude.{ℕ, ◌+◌, List, [], ◌∷◌, Option, option_map}
use Rattle.mix_base.specs.declared.reading.Source.{Ghosts}
use Rattle.lab_text.specs.Lines.{ScriptLine, Text, TooLong, lines_from}
use Rattle.lab_text.specs.Readers.{coming, lines_given}
use Rattle.lab_text.specs.Words.{words_of}
use Rattle.lab_text.specs.declared.lines.LineReader.{LineReader}
use Rattle.lab_text.specs.Outcomes.{Outcome, Says, Outside, ◌>>=◌}
use Rattle.mix_tools.specs.Drafts.{draft_behind}
use Rattle.mix_tools.specs.declared.requests.Draft.{Draft}
use Rattle.mix_tools.specs.declared.requests.Draft.TheVariants.{Making, Path, Answering, AnswerSizes, AnswerBlock, Opening, OpenSizes, OpenKeys, Whole}
use Rattle.mix_tools.specs.declared.requests.Request.{Request}

-- a text that ends before a line that it needs is bad at the line of this number, the one after its last
abbrev pub ended : ℕ → Draft → Outcome Request
ended number (Whole request) = Says request
ended number Making = Outside number
ended number (Path product head draw hops) = Outside number
ended number Answering = Outside number
ended number (AnswerSizes layout) = Outside number
ended number (AnswerBlock layout reply_block) = Outside number
ended number Opening = Outside number
ended number (OpenSizes layout) = Outside number
ended number (OpenKeys layout keys) = Outside number

-- what lines say behind a draft, the first of which has this number
abbrev pub request_from : List ScriptLine → ℕ → Draft → Outcome Request
request_from [] number draft = ended number draft
request_from (TooLong ∷ lines) number draft = Outside number
request_from (Text line ∷ lines) number draft =
    draft_behind number draft (words_of line) >>= request_from lines (number + 1)

-- what a whole text says
abbrev pub request_of : Draft → List ℕ → Outcome Request
request_of draft text = request_from (lines_from 0 text) 1 draft

-- what a reader's lines to come say behind a draft, where its source tells what is left
abbrev pub request_to_come : {I : Type 0} {G : Ghosts I} → LineReader I G → Draft → Option (Outcome Request)
request_to_come reader draft =
    option_map (λ lines. request_from lines (lines_given reader + 1) draft) (coming reader)
