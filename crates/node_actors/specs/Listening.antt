-- What a listener does: the packets that it took from its link, in its order, with their numbers and receipts, and what it
-- pushed to the workers. All counts are from 0.
use Rattle.std.specs.Prelude.{◌≡◌, ◌&&◌, ◌==◌, ◌<◌, ◌≤◌, ℕ, ◌+◌, ◌*◌, ◌%◌, ◌^◌, All, Bool, true, false, IfSome, IsSomeAnd, List, [], ◌∷◌, ◌++◌, Option, Some, None, flat_map, if◌then◌else◌, length, slice_get}
use Rattle.atomic_table.specs.Seated.{TableId}
use Rattle.mix_base.specs.Faults.{Rose}
use Rattle.mix_shard.specs.Items.{Item}
use Rattle.node_actors.specs.Fates.{DealerState}
use Rattle.node_actors.specs.Packets.{arrived_packets, dealt_packets, Packet, packet_with}
use Rattle.node_actors.specs.Queues.{after_push, Sending, marks}
use Rattle.node_actors.specs.Seats.{IsSameSeat}
use Rattle.node_actors.specs.declared.actors.fates.Dealt.{Dealt}
use Rattle.node_actors.specs.declared.actors.listening.Ending.{Ending}
use Rattle.node_actors.specs.declared.actors.listening.Ending.TheVariants.{Short, Failed, Numbers}
use Rattle.node_actors.specs.declared.actors.listening.Taken.{Taken}

-- what stays of a listener: its clock, the workers' queues, the packets' length, and that it is number `place` of so many
pub record ListenerPost (C : Type 0) : Type 0 where
  pub clock : C
  pub queues : List TableId
  pub size : ℕ
  pub place : ℕ
  pub listeners : ℕ

-- a link at which packets arrive: the bytes left, where it tells them, and its count of faults
pub record LinkState : Type 0 where
  pub left : Option (List ℕ)
  pub faults : ℕ

-- a listener on its way: what it has dealt with, its link and its senders to the workers, its next number, the worker whose
-- turn it is, and what it took
pub record ListenerState (C : Type 0) : Type 0 where
  pub post : ListenerPost C
  pub dealer : DealerState
  pub link : LinkState
  pub senders : List Sending
  pub next : Option ℕ
  pub worker : ℕ
  pub course : List Taken

-- ---- what it took

abbrev pub taken_packet : Taken → Packet
taken_packet taken = packet_with taken.number taken.receipt taken.packet.value.items

-- the packet, where it wasn't handed over
abbrev pub kept_where : Bool → Packet → List Packet
kept_where true packet = []
kept_where false packet = packet ∷ []

-- the packets that the listener dealt with
abbrev pub kept : List Taken → List Packet
kept course = flat_map (λ taken. kept_where taken.handed (taken_packet taken)) course

-- the packet, where it was handed to this worker
abbrev pub handed_where : Bool → ℕ → ℕ → Packet → List Packet
handed_where handed worker i packet = if handed && (worker == i) then packet ∷ [] else []

-- the packets that were pushed to the queue of this worker
abbrev pub handed : ℕ → List Taken → List Packet
handed i course = flat_map (λ taken. handed_where taken.handed taken.worker i (taken_packet taken)) course

-- all their bytes
abbrev pub taken_bytes : List Taken → List ℕ
taken_bytes course = flat_map (λ taken. taken.packet.value.items) course

-- ---- its numbers

-- the number of packet j of listener k of n
abbrev pub number_at : ℕ → ℕ → ℕ → ℕ
number_at n k j = k + 1 + j * n

-- packet j of listener k of n: its number, and the worker whose turn it was
pub record IsTurn (n k workers j : ℕ) (taken : Taken) : Type 0 where
  pub number : taken.number ≡ number_at n k j
  pub worker : taken.worker ≡ j % workers

abbrev pub InTurn : ℕ → ℕ → ℕ → List Taken → Type 0
InTurn n k workers course = (j : ℕ) (taken : Taken) → slice_get course j ≡ Some taken → IsTurn n k workers j taken

-- the number that is next; none where that is past all numbers
abbrev pub IsNext : Option ℕ → ℕ → Type 0
IsNext (Some next) number = next ≡ number
IsNext None number = 2 ^ 64 ≤ number

-- ---- its link

-- where the link tells what is left: what was taken, and then what is left, are what was left
pub record GoesOn (old new : LinkState) (took : List Taken) : Type 0 where
  pub left : IfSome old.left (λ was. IsSomeAnd new.left (λ is. was ≡ taken_bytes took ++ is))
  pub count : old.faults ≤ new.faults

-- why a listener ended that had taken so many packets: less than a packet was left, the link failed, or there is no next
-- number
abbrev pub EndsBy : {C : Type 0} → ListenerPost C → ℕ → LinkState → LinkState → Ending → Type 0
EndsBy post many old new (Short cut) = (cut < post.size) × IfSome old.left (λ was. IfSome new.left (λ is. length is ≡ cut))
EndsBy post many old new Failed = Rose old.faults new.faults
EndsBy post many old new Numbers = 2 ^ 64 ≤ number_at post.listeners post.place many

-- ---- its senders

-- a sender to each queue, which may still push
pub record AreOpenTo (queues : List TableId) (senders : List Sending) : Type 0 where
  pub many : length senders ≡ length queues
  pub own : (i : ℕ) (queue : TableId) (sender : Sending) → slice_get queues i ≡ Some queue → slice_get senders i ≡ Some sender → sender.queue ≡ queue
  pub open_to : (i : ℕ) (sender : Sending) → slice_get senders i ≡ Some sender → marks sender.pushed ≡ 0

-- each sender has pushed its end mark, and nothing else
pub record AreFinished (old new : List Sending) : Type 0 where
  pub many : length new ≡ length old
  pub ended : (i : ℕ) (was is : Sending) → slice_get old i ≡ Some was → slice_get new i ≡ Some is → is ≡ after_push was None

-- listener k's sender to worker i: it pushed the packets that were handed to that worker, in their order
pub record IsSenderTo (k i : ℕ) (course : List Taken) (sender : Sending) : Type 0 where
  pub from : sender.from ≡ k
  pub packets : arrived_packets sender.pushed ≡ handed i course

abbrev pub AreSenders : ℕ → List Taken → List Sending → Type 0
AreSenders k course senders = (i : ℕ) (sender : Sending) → slice_get senders i ≡ Some sender → IsSenderTo k i course sender

-- the packet was pushed to this worker, where it was handed over, and nothing else was
pub record PushesWhere (handed : Bool) (worker : ℕ) (packet : Packet) (old new : List Sending) : Type 0 where
  pub many : length new ≡ length old
  pub each : (i : ℕ) (was is : Sending) → slice_get old i ≡ Some was → slice_get new i ≡ Some is
      → (is.from ≡ was.from) × (arrived_packets is.pushed ≡ arrived_packets was.pushed ++ handed_where handed worker i packet)

-- ---- its run

-- what a listener has done so far
pub record HasListened {C : Type 0} (may_give : C → ℕ → Type 0) (listener : ListenerState C) : Type 0 where
  pub some : 0 < length listener.post.queues
  pub senders_open : AreOpenTo listener.post.queues listener.senders
  pub senders_are : AreSenders listener.post.place listener.course listener.senders
  pub turns : InTurn listener.post.listeners listener.post.place (length listener.post.queues) listener.course
  pub next_is : IsNext listener.next (number_at listener.post.listeners listener.post.place (length listener.course))
  pub worker_is : listener.worker ≡ length listener.course % length listener.post.queues
  pub sizes : All (λ taken. length taken.packet.value.items ≡ listener.post.size) listener.course
  pub receipts : All (λ taken. may_give listener.post.clock taken.receipt) listener.course
  pub log_is : dealt_packets listener.dealer.log ≡ kept listener.course

-- a listener that took these packets more
pub record KeepsListening {C : Type 0} (old new : ListenerState C) : Type 0 where
  pub same_post : new.post ≡ old.post
  pub same_seat : IsSameSeat old.dealer.seat new.dealer.seat
  pub took : List Taken
  pub course_is : new.course ≡ old.course ++ took
  pub goes_on : GoesOn old.link new.link took

-- a listener that has ended
pub record ListenedState : Type 0 where
  pub log : List (Dealt Item)
  pub link : LinkState
  pub senders : List Sending
  pub course : List Taken
  pub ending : Ending

abbrev pub listened : {N : Type 0} → (N → Option (List ℕ)) → (N → ℕ) → N → List (Dealt Item) → List Sending → List Taken → Ending → ListenedState
listened left faults link log senders course ending =
    record { log = log; link = record { left = left link; faults = faults link }; senders = senders; course = course; ending = ending }

-- its numbers and receipts; what it dealt with and what it pushed are what it took; it pushed one end mark to each worker; and
-- why it ended
pub record Listened {C : Type 0} (may_give : C → ℕ → Type 0) (old : ListenerState C) (new : ListenedState) : Type 0 where
  pub turns : InTurn old.post.listeners old.post.place (length old.post.queues) new.course
  pub sizes : All (λ taken. length taken.packet.value.items ≡ old.post.size) new.course
  pub receipts : All (λ taken. may_give old.post.clock taken.receipt) new.course
  pub log_is : dealt_packets new.log ≡ kept new.course
  pub many : length new.senders ≡ length old.post.queues
  pub own : (i : ℕ) (queue : TableId) (sender : Sending) → slice_get old.post.queues i ≡ Some queue → slice_get new.senders i ≡ Some sender → sender.queue ≡ queue
  pub senders_are : AreSenders old.post.place new.course new.senders
  pub finished : (i : ℕ) (sender : Sending) → slice_get new.senders i ≡ Some sender → marks sender.pushed ≡ 1
  pub took : List Taken
  pub course_is : new.course ≡ old.course ++ took
  pub goes_on : GoesOn old.link new.link took
  pub ends_by : EndsBy old.post (length new.course) old.link new.link new.ending
