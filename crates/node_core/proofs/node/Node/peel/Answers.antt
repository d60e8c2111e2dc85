use Rattle.std.proofs.Common.{◌≡◌, List, ◌∷◌, ◌∙◌, ap, sym, refl, Result, Ok, Err, IfOk, Some, drop, subst}
use Rattle.std.proofs.lemmas.List.Elements.{All-set}
use Rattle.mix_shard.specs.Items.{Item}
use Rattle.sphinx_unwrap.specs.declared.faults.Refused.{Refused}
use Rattle.node_core.specs.declared.arrivals.Arrival.{Arrival}
use Rattle.node_core.specs.Nodes.{HeldFor, packets_setup}
use Rattle.node_core.proofs.Waiting.{first_timely, one_fewer, peeled_oldest}
use Rattle.node_core.proofs.node.Node.peel.Goals as goal

pub open_arrival-requires-clause-moment : goal.open_arrival-requires-clause-moment
open_arrival-requires-clause-moment g c =
    first_timely c.self.inside.arrivals.items _ c.in-Some.arrival.now c.in-Some.ensures.some c.self.invariant.1

pub invariant_of-self-in-Ok : goal.invariant_of-self-in-Ok
invariant_of-self-in-Ok g c = (
  c.self.invariant.0,
  one_fewer c.self.inside.arrivals.items _ c.in-Some.arrival.now (c.in-Some.ensures.some ∙ ap (λ (xs : List Arrival). c.in-Some.arrival.now ∷ xs) (sym c.let_go_of_oldest.ensures)) c.self.invariant.1,
  c.open_arrival.ensures.same_seed ∙ c.self.invariant.2,
  c.open_arrival.ensures.same_times ∙ c.self.invariant.3,
  All-set (HeldFor (packets_setup c.self.inside.setup)) c.self.inside.workers c.args.worker (Some c.in-Ok.held) (subst (λ (f : Result Item Refused). IfOk f (λ held. held.setup ≡ packets_setup c.self.inside.setup)) c.in-Ok.is c.in_ok-found.ensures.setup) c.self.invariant.4,
  c.self.invariant.5,
  c.self.invariant.6,
)

pub invariant_of-self-in-Err : goal.invariant_of-self-in-Err
invariant_of-self-in-Err g c = (
  c.self.invariant.0,
  one_fewer c.self.inside.arrivals.items _ c.in-Some.arrival.now (c.in-Some.ensures.some ∙ ap (λ (xs : List Arrival). c.in-Some.arrival.now ∷ xs) (sym c.let_go_of_oldest.ensures)) c.self.invariant.1,
  c.open_arrival.ensures.same_seed ∙ c.self.invariant.2,
  c.open_arrival.ensures.same_times ∙ c.self.invariant.3,
  c.self.invariant.4,
  c.self.invariant.5,
  c.self.invariant.6,
)

pub returns-in-Ok-clause-ok : goal.returns-in-Ok-clause-ok
returns-in-Ok-clause-ok g c =
    rw (← c.self.view_is, c.let_go_of_oldest.ensures) (peeled_oldest g.S.Suite.meaning _ c.args.worker c.in-Some.arrival.now (drop 1 c.self.inside.arrivals.items) (Ok c.in-Ok.held) (c.if-not-is_free.ensures.free refl) c.in-Some.ensures.some (c.in_ok-found.ensures.found ∙ ap Some c.in-Ok.is))

pub returns-in-Err-clause-ok : goal.returns-in-Err-clause-ok
returns-in-Err-clause-ok g c =
    rw (← c.self.view_is, c.let_go_of_oldest.ensures) (peeled_oldest g.S.Suite.meaning _ c.args.worker c.in-Some.arrival.now (drop 1 c.self.inside.arrivals.items) (Err c.in-Err.why) (c.if-not-is_free.ensures.free refl) c.in-Some.ensures.some (c.in_ok-found.ensures.found ∙ ap Some c.in-Err.is))
