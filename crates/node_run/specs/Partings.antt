-- The nodes and feeds of a life once all threads have ended.
use Rattle.std.specs.Prelude.{ℕ, List, Option, map}
use Rattle.mix_base.specs.Suites.{SuiteMeaning}
use Rattle.node_actors.specs.Handing.{HandsFeed, link_out}
use Rattle.node_actors.specs.declared.actors.feeds.Feed.{Feed}
use Rattle.node_run.specs.Ends.{IsEnd}
use Rattle.node_run.specs.Lefts.{Staffing}
use Rattle.node_run.specs.Served.{Served}
use Rattle.node_run.specs.declared.life.seats.NodeEnd.{NodeEnd}

-- the link of a feed, as it came back
abbrev pub IsFedBy : {O : Type 0} → (O → Option (List (List ℕ))) → (O → ℕ) → Feed O → O → Type 0
IsFedBy given faults feed link =
    HandsFeed (map (λ packet. packet.items) feed.packets.items) (link_out given faults feed.link) (link_out given faults link)

-- a node that has served, and gives what its callers left
pub record HasServed {R S N O K M D Z W C : Type 0} (tells : Type 0) (suite : SuiteMeaning) (may_give : C → ℕ → Type 0) (left : N → Option (List ℕ)) (in_faults : N → ℕ)
    (given : O → Option (List (List ℕ))) (out_faults : O → ℕ) (node : Staffing N O C) (end : NodeEnd R S N O K M D Z W) : Type 0 where
  pub served : Served tells suite left in_faults given out_faults may_give node end.left.value.items end.shards.items
  pub gives_back : IsEnd end.left.value.items end.incoming.items end.outgoing.items end.local.items end.unsent end.dropped
