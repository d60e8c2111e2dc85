-- What connectors and feeds hand on: the packets that went over a link, the items that are for recipients of the node, and how
-- often a link refused one.
use Rattle.std.specs.Prelude.{◌≡◌, ◌-◌, ◌^◌, ◌+◌, ◌≤◌, ℕ, Bool, true, false, not, All, List, [], ◌∷◌, ◌++◌, Option, IfSome, IsSomeAnd, count_by, flat_map, length, min}
use Rattle.due_queue.specs.declared.destinations.Dest.TheVariants.{Hop, Local}
use Rattle.mix_shard.specs.Items.{Item, destination}
use Rattle.sphinx_unwrap.specs.declared.outcome.Out.{Out}
use Rattle.sphinx_unwrap.specs.declared.outcome.Out.TheVariants.{Forward, Deliver, Reply, Damaged}
use Rattle.node_actors.specs.Found.{IsUnlinked}
use Rattle.node_actors.specs.Takings.{unsent_in}
use Rattle.node_actors.specs.declared.actors.takings.Taking.{Taking}

-- a link to which packets are given: those given, where it tells them, and its count of faults
pub record LinkOutState : Type 0 where
  pub given : Option (List (List ℕ))
  pub faults : ℕ

abbrev pub link_out : {O : Type 0} → (O → Option (List (List ℕ))) → (O → ℕ) → O → LinkOutState
link_out given faults link = record { given = given link; faults = faults link }

-- the packet for the next hop, where there is one
abbrev pub forward_of : Out → List (List ℕ)
forward_of (Forward next packet) = packet ∷ []
forward_of (Deliver recipient body reply_block) = []
forward_of (Reply recipient surb payload) = []
forward_of (Damaged recipient) = []

-- the packet for the next hop of what was handed on
abbrev pub sent_where : Bool → Out → List (List ℕ)
sent_where true out = forward_of out
sent_where false out = []

-- the packets that were handed on over a link, in the order of the log
abbrev pub sent_packets : List (Taking Item) → List (List ℕ)
sent_packets log = flat_map (λ taking. sent_where taking.sent taking.item.value.out) log

-- the item, where it was handed on
abbrev pub kept_where : Bool → Item → List Item
kept_where true item = item ∷ []
kept_where false item = []

-- the items that were handed on to recipients of the node, in the order of the log
abbrev pub kept_items : List (Taking Item) → List Item
kept_items log = flat_map (λ taking. kept_where taking.sent taking.item.value) log

-- the count rose by so many at least, as far as it goes
abbrev pub RoseBy : ℕ → ℕ → ℕ → Type 0
RoseBy many old new = min (old + many) (2 ^ 64 - 1) ≤ new

-- a connector of the link to a hop: it took for that hop alone; the link was given what is noted as sent, in that order; and
-- for each packet that isn't, the link failed
pub record HandsOver (hop : List ℕ) (old new : LinkOutState) (log : List (Taking Item)) : Type 0 where
  pub hops : All (λ taking. destination taking.item.value.out ≡ Hop hop) log
  pub given : IfSome old.given (λ was. IsSomeAnd new.given (λ is. is ≡ was ++ sent_packets log))
  pub failed : RoseBy (unsent_in log) old.faults new.faults

-- the local connector of a node with links to these hops: it took nothing that goes over one of them; what is noted as sent
-- is all that it took for recipients of this node, and is what was kept, in that order
pub record KeepsLocal (hops : List (List ℕ)) (local : List Item) (log : List (Taking Item)) : Type 0 where
  pub unlinked : All (λ taking. IsUnlinked hops (destination taking.item.value.out)) log
  pub local_is : local ≡ kept_items log
  pub for_recipients : All (λ item. destination item.out ≡ Local) local
  pub none_lost : All (λ taking. destination taking.item.value.out ≡ Local → taking.sent ≡ true) log

-- those of some packets that weren't left out
abbrev pub not_left_out : List (List ℕ) → List Bool → List (List ℕ)
not_left_out [] sent = []
not_left_out (packet ∷ packets) [] = []
not_left_out (packet ∷ packets) (true ∷ sent) = packet ∷ not_left_out packets sent
not_left_out (packet ∷ packets) (false ∷ sent) = not_left_out packets sent

-- a feed: the link was given its packets in order, but for some that were left out, and for each of these it failed
pub record HandsFeed (packets : List (List ℕ)) (old new : LinkOutState) : Type 0 where
  pub sent : List Bool
  pub each : length sent ≡ length packets
  pub given : IfSome old.given (λ was. IsSomeAnd new.given (λ is. is ≡ was ++ not_left_out packets sent))
  pub failed : RoseBy (count_by (λ is. not is) sent) old.faults new.faults
