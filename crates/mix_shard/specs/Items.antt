-- Items: packets that were unwrapped, with all that a shard keeps of one.
use Rattle.std.specs.Prelude.{◌≡◌, ℕ, ◌+◌, ◌^◌, ◌<◌, List, Option, Some, option_map, unwrap_or, Result, Ok, Err}
use Rattle.mix_base.specs.Suites.{SuiteMeaning}
use Rattle.packet_form.specs.Geometry.{Sizes}
use Rattle.epoch_keys.specs.Epochs.{EpochTimes}
use Rattle.due_queue.specs.declared.destinations.Dest.{Dest}
use Rattle.due_queue.specs.declared.destinations.Dest.TheVariants.{Hop, Local}
use Rattle.due_queue.specs.declared.queue.Next.{Next}
use Rattle.sphinx_unwrap.specs.declared.outcome.Opened.{Opened}
use Rattle.sphinx_unwrap.specs.declared.outcome.Out.{Out}
use Rattle.sphinx_unwrap.specs.declared.outcome.Out.TheVariants.{Forward, Deliver, Reply, Damaged}
use Rattle.sphinx_unwrap.specs.declared.faults.Refused.{Refused}
use Rattle.mix_shard.specs.LiveKeys.{opened_at}
use Rattle.mix_shard.specs.declared.setup.Setup.{Setup}

-- the geometry, the epochs and the seed together
abbrev pub setup_of : Sizes → EpochTimes → List ℕ → Setup
setup_of geometry times seed = record { geometry = geometry; times = times; seed = seed }

-- what it was unwrapped under, the number and the moment of its arrival, the epoch whose key opens it, its replay tag,
-- the moment from which it may be handed on, what goes out, and the packet as it arrived
pub record Item : Type 0 where
  pub setup : Setup
  pub number : ℕ
  pub at : ℕ
  pub epoch : ℕ
  pub tag : List ℕ
  pub due : ℕ
  pub out : Out
  pub packet : List ℕ

-- all of these together
abbrev pub item_with : Setup → ℕ → ℕ → ℕ → List ℕ → ℕ → Out → List ℕ → Item
item_with setup number at epoch tag due out packet = record {
  setup = setup;
  number = number;
  at = at;
  epoch = epoch;
  tag = tag;
  due = due;
  out = out;
  packet = packet;
}

-- an arrived packet that a key opens: it is due when its delay has passed since its receipt
abbrev pub item_of : Setup → ℕ → ℕ → List ℕ → ℕ × Opened → Item
item_of setup number at packet found = record {
  setup = setup;
  number = number;
  at = at;
  epoch = found.0;
  tag = found.1.tag;
  due = at + unwrap_or found.1.delay 0;
  out = found.1.out;
  packet = packet;
}

-- the item, or why there is none
abbrev pub item_or_not : Setup → ℕ → ℕ → List ℕ → Result (ℕ × Opened) Refused → Result Item Refused
item_or_not setup number at packet (Ok found) = Ok (item_of setup number at packet found)
item_or_not setup number at packet (Err why) = Err why

-- a packet that arrived with a number at a moment, under the keys that were live then; nothing where one of these epochs
-- has no pair
abbrev pub peeled : SuiteMeaning → Setup → ℕ → ℕ → List ℕ → Option (Result Item Refused)
peeled suite setup number at packet = option_map (item_or_not setup number at packet) (opened_at suite setup at packet)

-- an item is what the keys that were live at its receipt make of its packet
pub record IsHeld (suite : SuiteMeaning) (item : Item) : Type 0 where
  pub moment : item.at < 2 ^ 60
  pub opens : peeled suite item.setup item.number item.at item.packet ≡ Some (Ok item)

-- where what goes out is to go: to the next hop, or to a recipient of this node
abbrev pub destination : Out → Dest
destination (Forward next packet) = Hop next
destination (Deliver recipient body reply_block) = Local
destination (Reply recipient surb payload) = Local
destination (Damaged recipient) = Local

-- when an item is due, its number and its destination
abbrev pub whens : Item → Next
whens item = record { due = item.due; number = item.number; dest = destination item.out }
