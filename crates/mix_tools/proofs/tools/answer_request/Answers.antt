use Rattle.std.proofs.Common.{◌≡◌, Option, IfSome, Err, subst}
use Rattle.lab_text.specs.Outcomes.{Outcome, Says, Reads}
use Rattle.mix_tools.specs.declared.requests.Request.{Request}
use Rattle.mix_tools.proofs.AnsweredRequests.{request_at_start, answers_from_stop, answers_from_request, explained_from_stop, explained_from_request, ends_tool, keyed_reading}
use Rattle.mix_tools.proofs.tools.answer_request.Goals as goal

pub returns-in-Err-clause-text : goal.returns-in-Err-clause-text
returns-in-Err-clause-text g c =
    let left = g.I.Source.left c.args.source.now in
    let start = request_at_start c.new-reader.result c.args.draft left c.new-reader.ensures.number c.new-reader.ensures.coming in
    answers_from_stop c.args.draft left (g.O.Sink.given c.args.sink.now) c.in-Err.status
    (subst (λ (o : Option (Outcome Request)). IfSome o (λ outcome. Reads {A = Request} outcome (Err c.in-Err.status))) start c.in-Err.ensures.exact) c.in-Err.ensures.kind

pub returns-in-Ok-clause-text : goal.returns-in-Ok-clause-text
returns-in-Ok-clause-text g c =
    let left = g.I.Source.left c.args.source.now in
    let start = request_at_start c.new-reader.result c.args.draft left c.new-reader.ensures.number c.new-reader.ensures.coming in
    answers_from_request c.args.draft c.in-Ok.request left (g.O.Sink.given c.args.sink.now) _ _
    (subst (λ (o : Option (Outcome Request)). IfSome o (λ outcome. outcome ≡ Says c.in-Ok.request)) start c.in-Ok.ensures.exact) c.write_answer.ensures.text

pub returns-in-Err-clause-cause : goal.returns-in-Err-clause-cause
returns-in-Err-clause-cause g c =
    let left = g.I.Source.left c.args.source.now in
    let start = request_at_start c.new-reader.result c.args.draft left c.new-reader.ensures.number c.new-reader.ensures.coming in
    explained_from_stop c.args.draft left c.in-Err.status
    (subst (λ (o : Option (Outcome Request)). IfSome o (λ outcome. Reads {A = Request} outcome (Err c.in-Err.status))) start c.in-Err.ensures.exact) c.in-Err.ensures.kind

pub returns-in-Ok-clause-cause : goal.returns-in-Ok-clause-cause
returns-in-Ok-clause-cause g c =
    let left = g.I.Source.left c.args.source.now in
    let start = request_at_start c.new-reader.result c.args.draft left c.new-reader.ensures.number c.new-reader.ensures.coming in
    explained_from_request c.args.draft c.in-Ok.request left _
    (subst (λ (o : Option (Outcome Request)). IfSome o (λ outcome. outcome ≡ Says c.in-Ok.request)) start c.in-Ok.ensures.exact) c.write_answer.ensures.cause

pub returns-in-Err-clause-kind : goal.returns-in-Err-clause-kind
returns-in-Err-clause-kind g c = ends_tool c.in-Err.status c.in-Err.ensures.kind

pub returns-in-Err-clause-keyed : goal.returns-in-Err-clause-keyed
returns-in-Err-clause-keyed g c = keyed_reading c.in-Err.status c.in-Err.ensures.kind
