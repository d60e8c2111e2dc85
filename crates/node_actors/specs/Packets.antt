-- Packets with their numbers and receipts, as they lie in a queue and as they stand in a fate log.
use Rattle.std.specs.Prelude.{ℕ, List, [], ◌∷◌, Option, Some, None, flat_map, map}
use Rattle.mix_shard.specs.Items.{Item}
use Rattle.node_actors.specs.declared.actors.fates.Dealt.{Dealt}
use Rattle.node_actors.specs.declared.queues.items.Arrival.{Arrival}
use Rattle.node_actors.specs.declared.queues.items.Item as queued

-- the number of its arrival, the moment of its receipt, and its bytes
pub record Packet : Type 0 where
  pub number : ℕ
  pub receipt : ℕ
  pub bytes : List ℕ

abbrev pub packet_with : ℕ → ℕ → List ℕ → Packet
packet_with number receipt bytes = record { number = number; receipt = receipt; bytes = bytes }

-- the packets of a fate log
abbrev pub dealt_packet : Dealt Item → Packet
dealt_packet dealt = packet_with dealt.number dealt.receipt dealt.packet.value.items

abbrev pub dealt_packets : List (Dealt Item) → List Packet
dealt_packets log = map dealt_packet log

-- the packet of an arrival
abbrev pub packet_of : Arrival → Packet
packet_of arrival = packet_with arrival.number arrival.receipt arrival.packet

-- the packets among what came out of a queue: an end mark has none
abbrev pub arrived : Option Arrival → List Packet
arrived None = []
arrived (Some arrival) = packet_of arrival ∷ []

abbrev pub arrived_packets : List queued.Item → List Packet
arrived_packets items = flat_map (λ x. arrived x.arrival) items
