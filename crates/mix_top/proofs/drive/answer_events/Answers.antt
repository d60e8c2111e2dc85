use Rattle.std.proofs.Common.{rules, arith, ◌≡◌, ◌∙◌, List, Option, ◌+◌, IsSome, IfNone, IfSome, ap, sym, subst, Err}
use Rattle.std.proofs.lemmas.Result.{err_from_is_err_and}
use Rattle.lab_text.specs.Readers.{lines_given}
use Rattle.lab_text.specs.Script.{ends}
use Rattle.lab_text.specs.declared.statuses.Status.TheVariants.{Done}
use Rattle.lab_text.specs.declared.events.Event.{Event}
use Rattle.node_core.specs.declared.setup.NodeSetup.{NodeSetup}
use Rattle.mix_top.specs.Acts.{Act, acts_of}
use Rattle.mix_top.specs.Progress.{Breaks, EndsAs, Goes, IsNext, events_to_come}
use Rattle.mix_top.specs.Receiving.{GaveFront, GaveText}
use Rattle.mix_top.proofs.Tracking.{answers_broken, answers_stop, answers_unopened, first_round, progress_begins, progress_goes_on, source_goes_on, source_stays}
use Rattle.mix_top.proofs.drive.answer_events.Goals as goal

pub returns-in_err-go_round-clause-answers : goal.returns-in_err-go_round-clause-answers
returns-in_err-go_round-clause-answers g c =
    let p = err_from_is_err_and c.from_residual.result c.from_residual.ensures.1 in
    rw (p.1, p.2) (answers_unopened g.C.Rack.tells g.S.Suite.meaning c.args.node.now (events_to_come c.args.setup.now.shards c.args.reader.now) c.go_round.new.node
    (g.O.Sink.given c.args.sink.now) (g.O.Sink.given c.go_round.new.receiver) c.in_err-go_round.field-0.0
    (subst (λ (acts : List Act). Breaks g.C.Rack.tells g.S.Suite.meaning acts c.in_err-go_round.field-0.0 c.args.node.now c.go_round.new.node (GaveText (g.O.Sink.given c.args.sink.now) (g.O.Sink.given c.go_round.new.receiver)) (GaveFront (g.O.Sink.given c.args.sink.now) (g.O.Sink.given c.go_round.new.receiver)))
    (first_round c.args.setup.now c.args.node.now c.requires.setup) c.in_err-go_round.ensures.serves))

pub events-init : goal.events-init
events-init g c = record {
  answered = progress_begins g.C.Rack.tells g.S.Suite.meaning c.args.node.now (events_to_come c.args.setup.now.shards c.args.reader.now) c.go_round.new.node
      (g.O.Sink.given c.args.sink.now) (g.O.Sink.given c.go_round.new.receiver)
      (subst (λ (acts : List Act). Goes g.C.Rack.tells g.S.Suite.meaning acts c.args.node.now c.go_round.new.node (GaveText (g.O.Sink.given c.args.sink.now) (g.O.Sink.given c.go_round.new.receiver)))
      (first_round c.args.setup.now c.args.node.now c.requires.setup) c.in_ok-go_round.ensures.serves);
  source = source_stays c.args.reader.now;
  node = record { setup = c.go_round.ensures.goes_on.node.setup; kept = c.go_round.ensures.goes_on.node.kept };
  next = omega (arith, c.go_round.ensures.goes_on.next, c.requires.new);
  write_faults = c.go_round.ensures.receiver.count;
}

pub returns-in_err-event-clause-answers : goal.returns-in_err-event-clause-answers
returns-in_err-event-clause-answers g c =
    let p = err_from_is_err_and c.from_residual-in_err-event.result c.from_residual-in_err-event.ensures.1 in
    rw (p.1, p.2) (answers_stop g.C.Rack.tells g.S.Suite.meaning c.args.node.now (events_to_come c.args.setup.now.shards c.args.reader.now) (events_to_come c.args.setup.now.shards c.events.reader)
    c.events.node (g.O.Sink.given c.args.sink.now) (g.O.Sink.given c.events.sink) c.in_err-event.field-0.0 c.events.invariant.answered c.in_err-event.ensures.kind c.in_err-event.ensures.stops)

pub returns-in_err-event-clause-end : goal.returns-in_err-event-clause-end
returns-in_err-event-clause-end g c =
    let p = err_from_is_err_and c.from_residual-in_err-event.result c.from_residual-in_err-event.ensures.1 in
    rw (p.1, p.2) (λ same. absurd (c.in_err-event.ensures.not_done (ap Err same)))

pub events-preserved : goal.events-preserved
events-preserved g c =
    let next : IsNext (lines_given c.next_event.new.reader, c.in-Some.event) (events_to_come c.args.setup.now.shards c.events.reader) (events_to_come c.args.setup.now.shards c.next_event.new.reader) =
    subst (λ (o : Option Event). IfSome o (λ event. IsNext (lines_given c.next_event.new.reader, event) (events_to_come c.args.setup.now.shards c.events.reader) (events_to_come c.args.setup.now.shards c.next_event.new.reader)))
    c.in-Some.is c.in_ok-event.ensures.event in
    let counted : lines_given c.next_event.new.reader ≡ lines_given c.events.reader + 1 =
    subst (λ (o : Option Event). IsSome o → lines_given c.next_event.new.reader ≡ lines_given c.events.reader + 1) c.in-Some.is c.in_ok-event.ensures.counted (search rules) in
    record {
      answered = progress_goes_on g.C.Rack.tells g.S.Suite.meaning c.args.node.now (events_to_come c.args.setup.now.shards c.args.reader.now) (events_to_come c.args.setup.now.shards c.events.reader)
          (events_to_come c.args.setup.now.shards c.next_event.new.reader) c.events.node c.serve.new.node (lines_given c.next_event.new.reader, c.in-Some.event)
          (g.O.Sink.given c.args.sink.now) (g.O.Sink.given c.events.sink) (g.O.Sink.given c.serve.new.receiver) c.events.invariant.answered next
          (subst (λ (s : NodeSetup). Goes g.C.Rack.tells g.S.Suite.meaning (acts_of s.shards c.in-Some.event) c.events.node c.serve.new.node (GaveText (g.O.Sink.given c.events.sink) (g.O.Sink.given c.serve.new.receiver)))
          (sym c.requires.setup) c.in_ok-serve.ensures.serves);
      source = source_goes_on _ _ _ c.events.invariant.source c.in_ok-event.ensures.source;
      node = record { setup = c.serve.ensures.goes_on.node.setup ∙ c.events.invariant.node.setup; kept = c.serve.ensures.goes_on.node.kept };
      next = omega (arith, c.serve.ensures.goes_on.next, c.events.invariant.next, counted);
      write_faults = omega (arith, c.events.invariant.write_faults, c.serve.ensures.receiver.count);
    }

pub returns-in_err-serve-clause-answers : goal.returns-in_err-serve-clause-answers
returns-in_err-serve-clause-answers g c =
    let p = err_from_is_err_and c.from_residual-in_err-serve.result c.from_residual-in_err-serve.ensures.1 in
    let next : IsNext (lines_given c.next_event.new.reader, c.in-Some.event) (events_to_come c.args.setup.now.shards c.events.reader) (events_to_come c.args.setup.now.shards c.next_event.new.reader) =
    subst (λ (o : Option Event). IfSome o (λ event. IsNext (lines_given c.next_event.new.reader, event) (events_to_come c.args.setup.now.shards c.events.reader) (events_to_come c.args.setup.now.shards c.next_event.new.reader)))
    c.in-Some.is c.in_ok-event.ensures.event in
    rw (p.1, p.2) (answers_broken g.C.Rack.tells g.S.Suite.meaning c.args.node.now (events_to_come c.args.setup.now.shards c.args.reader.now) (events_to_come c.args.setup.now.shards c.events.reader)
    (events_to_come c.args.setup.now.shards c.next_event.new.reader) c.events.node c.serve.new.node (lines_given c.next_event.new.reader, c.in-Some.event)
    (g.O.Sink.given c.args.sink.now) (g.O.Sink.given c.events.sink) (g.O.Sink.given c.serve.new.receiver) c.in_err-serve.field-0.0 c.events.invariant.answered next
    (subst (λ (s : NodeSetup). Breaks g.C.Rack.tells g.S.Suite.meaning (acts_of s.shards c.in-Some.event) c.in_err-serve.field-0.0 c.events.node c.serve.new.node (GaveText (g.O.Sink.given c.events.sink) (g.O.Sink.given c.serve.new.receiver)) (GaveFront (g.O.Sink.given c.events.sink) (g.O.Sink.given c.serve.new.receiver)))
    (sym c.requires.setup) c.in_err-serve.ensures.serves))

pub returns-clause-answers : goal.returns-clause-answers
returns-clause-answers g c =
    let none : IfSome (events_to_come c.args.setup.now.shards c.events.reader) (λ events. EndsAs ends events Done) =
    subst (λ (o : Option Event). IfNone o (IfSome (events_to_come c.args.setup.now.shards c.events.reader) (λ events. EndsAs ends events Done))) c.in_default.is c.in_ok-event.ensures.none in
    answers_stop g.C.Rack.tells g.S.Suite.meaning c.args.node.now (events_to_come c.args.setup.now.shards c.args.reader.now) (events_to_come c.args.setup.now.shards c.events.reader)
    c.events.node (g.O.Sink.given c.args.sink.now) (g.O.Sink.given c.events.sink) Done c.events.invariant.answered tt none
