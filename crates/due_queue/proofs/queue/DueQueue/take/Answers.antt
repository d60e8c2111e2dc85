use Rattle.std.proofs.Common.{◌≡◌, ◌∷◌, Some, List, IsPermutation, sym, subst}
use Rattle.std.proofs.lemmas.List.Sorted.{IsPermutation-swap_remove}
use Rattle.std.proofs.lemmas.Option.{slice_get_within}
use Rattle.due_queue.specs.Inside.{HasFound}
use Rattle.due_queue.specs.Queues.{QueueState}
use Rattle.due_queue.proofs.queue.DueQueue.take.Goals as goal

pub returns-clause-rest : goal.returns-clause-rest
returns-clause-rest g c =
    let old = c.self.inside.items.items in
    let taken = c.swap_remove.result in
    let left = c.swap_remove.new.self.items in
    let stands = subst (λ (lent : List _). HasFound g.T.Due.told (Some c.args.dest.now) c.args.moment lent lent (Some c.in_ok-place.place)) c.deref.ensures.value c.in_ok-place.ensures in
    let within = slice_get_within old c.in_ok-place.place stands.0 stands.1 in
    let moved : IsPermutation old (taken ∷ left) = subst (λ (now : List _). IsPermutation old (taken ∷ now)) (sym c.swap_remove.ensures.items)
    (IsPermutation-swap_remove old c.in_ok-place.place taken within c.swap_remove.ensures.value) in
    subst (λ (queue : QueueState _). IsPermutation queue.items (taken ∷ left)) c.self.view_is moved
