-- The line that stops a request stops all that comes.
use Rattle.std.proofs.Common.{◌≡◌, ℕ, ◌+◌, ◌∙◌, List, Option, IfSome, Result, Err, sym, subst, rules}
use Rattle.lab_text.specs.Outcomes.{Outcome, Reads}
use Rattle.lab_text.specs.Readers.{coming, lines_given}
use Rattle.lab_text.specs.Words.{words_of}
use Rattle.lab_text.specs.declared.statuses.Status.{Status}
use Rattle.mix_tools.proofs.AnsweredRequests.{stops_at_line}
use Rattle.mix_tools.specs.Drafts.{draft_behind}
use Rattle.mix_tools.specs.Reading.{request_to_come}
use Rattle.mix_tools.specs.declared.requests.Draft.{Draft}
use Rattle.mix_tools.specs.declared.requests.Request.{Request}
use Rattle.mix_tools.proofs.reading.read_request.Goals as goal

pub returns-in_err-draft-clause-exact : goal.returns-in_err-draft-clause-exact
returns-in_err-draft-clause-exact g c =
    let given = rw c.in-Some.is at c.in_ok-line.ensures.line in
    let counted = rw c.in-Some.is at c.in_ok-line.ensures.counted in
    let number : c.number.result ≡ lines_given c.lines.reader + 1 = c.number.ensures ∙ counted in
    let all : Option (Outcome Request) = request_to_come c.args.reader.now c.args.draft in
    let reads = subst (λ (line : List ℕ). Reads {A = Draft} (draft_behind c.number.result c.lines.draft (words_of line)) (Err c.in_err-draft.field-0.0))
    c.as_slice.ensures.value c.in_err-draft.ensures.exact in
    let stops = stops_at_line all (coming c.lines.reader) (coming c.next_line.new.self) (lines_given c.lines.reader) c.number.result c.lines.draft
    c.in-Some.line.items c.in_err-draft.field-0.0 c.lines.invariant.same given number reads in
    let is : ◌≡◌ {A = Result Request Status} c.from_residual-in_err-draft.result (Err c.in_err-draft.field-0.0) = search rules in
    subst (λ (read : Result Request Status). IfSome all (λ outcome. Reads {A = Request} outcome read)) (sym is) stops
