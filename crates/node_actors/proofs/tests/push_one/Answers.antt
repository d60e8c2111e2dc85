use Rattle.std.proofs.Common.{◌≡◌, false, [], ◌∷◌, ◌++◌, Ok, Err, Result, Some, ap, ◌∙◌, arith}
use Rattle.std.specs.Prelude.{OnOk, is_err}
use Rattle.node_actors.specs.declared.queues.items.Full.{Full}
use Rattle.node_actors.specs.declared.queues.items.Item.{Item}
use Rattle.node_actors.specs.Queues.{Sending, marks}
use Rattle.node_actors.proofs.Posting.{marks-append}
use Rattle.node_actors.proofs.tests.push_one.Goals as goal

pushed : (r : Result (Unit {0}) Full) (P : Type 0) → OnOk r P → false ≡ is_err r → P
pushed (Ok x) P ok other = ok
pushed (Err x) P ok other = absurd (cc other)

pub returns : goal.returns
returns g c =
    let new = pushed c.push.result _ c.push.ensures.ok c.if-is_err.ensures.value in
    let sender = c.args.sender.now in
    let item : Item = record { from = sender.from; arrival = Some c.args.arrival } in
    let more = marks-append sender.pushed (item ∷ []) in
    let before = c.requires.1 in
    (ap (λ (s : Sending). s.queue) new ∙ c.requires.0, ap (λ (s : Sending). marks s.pushed) new ∙ omega arith)
