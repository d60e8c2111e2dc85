-- What waits arrived at moments below 2^60, and the oldest is unwrapped first.
use Rattle.std.proofs.Common.{◌≡◌, ℕ, ◌^◌, ◌<◌, List, [], ◌∷◌, ◌++◌, Some, None, Result, refl, sym, subst}
use Rattle.std.specs.List.{All}
use Rattle.std.proofs.lemmas.List.Elements.{All-append, All-cons, All-head, All-nil, All-tail}
use Rattle.mix_base.specs.Suites.{SuiteMeaning}
use Rattle.mix_shard.specs.Items as items
use Rattle.mix_shard.specs.Items.{Item}
use Rattle.sphinx_unwrap.specs.declared.faults.Refused.{Refused}
use Rattle.node_core.specs.Nodes.{NodeState, packets_setup}
use Rattle.node_core.specs.Steps.{peeled, settled, worker_at}
use Rattle.node_core.specs.declared.arrivals.Arrival.{Arrival}

abbrev IsTimely : Arrival → Type 0
IsTimely arrival = arrival.at < 2 ^ 60

pub one_more : (old new : List Arrival) (arrival : Arrival) → new ≡ old ++ arrival ∷ [] → arrival.at < 2 ^ 60 → All IsTimely old → All IsTimely new
one_more old new arrival is below all =
    subst (λ (xs : List Arrival). All IsTimely xs) (sym is) (All-append IsTimely old (arrival ∷ []) all (All-cons IsTimely arrival [] below (All-nil IsTimely)))

pub one_fewer : (old new : List Arrival) (arrival : Arrival) → old ≡ arrival ∷ new → All IsTimely old → All IsTimely new
one_fewer old new arrival is all = All-tail IsTimely arrival new (subst (λ (xs : List Arrival). All IsTimely xs) is all)

pub first_timely : (old new : List Arrival) (arrival : Arrival) → old ≡ arrival ∷ new → All IsTimely old → arrival.at < 2 ^ 60
first_timely old new arrival is all = All-head IsTimely arrival new (subst (λ (xs : List Arrival). All IsTimely xs) is all)

-- the oldest arrival, unwrapped by a worker that holds nothing
pub peeled_oldest : (suite : SuiteMeaning) (node : NodeState) (worker : ℕ) (arrival : Arrival) (others : List Arrival) (found : Result Item Refused)
    → worker_at node worker ≡ None → node.arrivals ≡ arrival ∷ others
    → items.peeled suite (packets_setup node.setup) arrival.number arrival.at arrival.packet ≡ Some found
    → peeled suite node worker ≡ Some (settled (record node { arrivals = others }) worker arrival.number found)
peeled_oldest suite node worker arrival others found free waiting is =
    rw (free, waiting, is) refl
