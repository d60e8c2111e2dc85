-- What a connector finds at a shard, and the entry that this makes.
use Rattle.std.specs.Prelude.{◌≡◌, ⊤, ℕ, List, [], Contains}
use Rattle.due_queue.specs.declared.destinations.Dest.{Dest}
use Rattle.due_queue.specs.declared.destinations.Dest.TheVariants.{Hop, Local}
use Rattle.mix_shard.specs.Items.{Item, destination}
use Rattle.mix_shard.specs.Shards.{IsEntry}
use Rattle.mix_shard.specs.declared.entries.Entry.TheVariants as entry
use Rattle.mix_shard.specs.declared.entries.Told.{Told}
use Rattle.node_actors.specs.declared.actors.turns.Found.{Found}
use Rattle.node_actors.specs.declared.actors.turns.Found.TheVariants.{Packet, Waiting, Empty, Drained}

-- the packet's own entry; none where none was taken out
abbrev pub IsTakenBy : ℕ → ℕ → Found Item → List Told → Type 0
IsTakenBy caller moment (Packet item) own = IsEntry (entry.Take caller item.number (destination item.out) moment) own
IsTakenBy caller moment Waiting own = own ≡ []
IsTakenBy caller moment Empty own = own ≡ []
IsTakenBy caller moment Drained own = own ≡ []

abbrev pub IfFound : Found Item → (Item → Type 0) → Type 0
IfFound (Packet item) fact = fact item
IfFound Waiting fact = ⊤
IfFound Empty fact = ⊤
IfFound Drained fact = ⊤

abbrev pub IsNoPacket : Found Item → Type 0
IsNoPacket (Packet item) = ⊥
IsNoPacket Waiting = ⊤
IsNoPacket Empty = ⊤
IsNoPacket Drained = ⊤

-- a packet for this destination goes over none of the links to these hops
abbrev pub IsUnlinked : List (List ℕ) → Dest → Type 0
IsUnlinked hops Local = ⊤
IsUnlinked hops (Hop id) = ¬ Contains hops id
