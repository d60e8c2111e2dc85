-- What became of the packets that arrived: each was dealt with once, by the listener that took it or by the worker to
-- whom it was handed; and the claims of a caller are those of its fate log.
use Rattle.std.specs.Prelude.{◌≡◌, ◌↔◌, ◌<◌, ℕ, ◌+◌, ◌-◌, ◌*◌, ◌^◌, All, Contains, List, Option, Some, flat_map, if◌then◌else◌, length, map, min, slice_get}
use Rattle.std.specs.List.{AllZip}
use Rattle.mix_base.specs.Suites.{SuiteMeaning}
use Rattle.mix_shard.specs.Items.{Item}
use Rattle.mix_shard.specs.declared.entries.Told.{Told}
use Rattle.turn_lock.specs.Seen.{Caller}
use Rattle.node_actors.specs.Calls.{claims}
use Rattle.node_actors.specs.Fates.{HasCause, IsClaimOf, dropped_in, items_at}
use Rattle.node_actors.specs.Listening.{EndsBy, GoesOn, InTurn, LinkState, ListenerPost, taken_packet}
use Rattle.node_actors.specs.Packets.{Packet, dealt_packets}
use Rattle.node_actors.specs.declared.actors.fates.Dealt.{Dealt}
use Rattle.node_actors.specs.declared.actors.listening.Ending.{Ending}
use Rattle.node_actors.specs.declared.actors.listening.Taken.{Taken}
use Rattle.node_actors.specs.declared.actors.works.Left.{Left}
use Rattle.node_actors.specs.declared.actors.works.Work.{Work}
use Rattle.node_actors.specs.declared.actors.works.Work.TheVariants.{Listened}
use Rattle.node_run.specs.Accounts.{calls_of, course_of, dropped_of, fates_of}
use Rattle.node_run.specs.Lefts.{Staffing}
use Rattle.node_run.specs.Orders.{Differ}

-- who deals with a packet that a listener took: the listener itself, or the worker to whom it was handed
abbrev pub dealer_of : ℕ → ℕ → Taken → ℕ
dealer_of listeners place taken = if taken.handed then 2 * (listeners + taken.worker) else 2 * place

-- the numbers of a fate log
abbrev pub numbers_of : List (Dealt Item) → List ℕ
numbers_of log = map (λ dealt. dealt.number) log

module _ {N O : Type 0} where
  -- a packet that one of so many listeners took, and with which this caller deals
  pub record IsArrival (listeners : ℕ) (lefts : List (Left (Caller Told) Item N O)) (caller : ℕ) (packet : Packet) : Type 0 where
    pub place : ℕ
    pub low : place < listeners
    pub listener : Left (Caller Told) Item N O
    pub there : slice_get lefts (2 * place) ≡ Some listener
    pub taken : Taken
    pub is_taken : Contains (course_of listener.work) taken
    pub packet_is : packet ≡ taken_packet taken
    pub dealer : caller ≡ dealer_of listeners place taken

module _ {N O C : Type 0} (suite : SuiteMeaning) (left : N → Option (List ℕ)) (faults : N → ℕ) (node : Staffing N O C) where
  -- a listener of the node: its clock, the workers' queues, the packets' length, and that it is number `place`
  abbrev pub post_at : ℕ → ListenerPost C
  post_at place = record { clock = node.clock; queues = node.hall.queues; size = node.size; place = place; listeners = length node.incoming }

  -- the bytes left of a link, where it tells them, and its count of faults
  abbrev pub link_in : N → LinkState
  link_in link = record { left = left link; faults = faults link }

  -- the listener of a link: its packets' numbers, and the worker whose turn each was; the packets are of the node's
  -- length, and where the link tells its bytes, they are what was taken from it; and why it ended
  pub record HasRead (place : ℕ) (was is : LinkState) (course : List Taken) (ending : Ending) : Type 0 where
    pub turns : InTurn (length node.incoming) place node.workers course
    pub sizes : All (λ taken. length taken.packet.value.items ≡ node.size) course
    pub goes_on : GoesOn was is course
    pub ends_by : EndsBy (post_at place) (length course) was is ending

  abbrev pub HasReadLink : ℕ → N → Work Item N O → Type 0
  HasReadLink place link (Listened now log dropped senders course ending) = HasRead place (link_in link) (link_in now) course.items ending
  HasReadLink place link _ = ⊥

  -- a caller's fate log: each fate has its cause, those that were dropped are counted; and at each shard the caller's
  -- claims are those of the log, one for one and in its order
  pub record HasFates (tales : List (List Told)) (caller : ℕ) (work : Work Item N O) : Type 0 where
    pub causes : All (λ dealt. HasCause suite node.hall.setup dealt.number dealt.receipt dealt.packet.value.items dealt.fate) (fates_of work)
    pub dropped : dropped_of work ≡ min (dropped_in (fates_of work)) (2 ^ 64 - 1)
    pub claims_are : (i : ℕ) (tale : List Told) → slice_get tales i ≡ Some tale
        → AllZip (IsClaimOf caller) (items_at (length node.hall.locks) i (fates_of work)) (claims (calls_of caller tale))

  -- no number has two records; a caller has records of just the packets with which it deals
  pub record Arrivals (lefts : List (Left (Caller Told) Item N O)) (tales : List (List Told)) : Type 0 where
    pub once : Differ (flat_map (λ gave. numbers_of (fates_of gave.work)) lefts)
    pub arrived : (caller : ℕ) (gave : Left (Caller Told) Item N O) (packet : Packet) → slice_get lefts caller ≡ Some gave
        → Contains (dealt_packets (fates_of gave.work)) packet ↔ IsArrival (length node.incoming) lefts caller packet
    pub fates : (caller : ℕ) (gave : Left (Caller Told) Item N O) → slice_get lefts caller ≡ Some gave → HasFates tales caller gave.work
    pub links : (place : ℕ) (link : N) (listener : Left (Caller Told) Item N O) → slice_get node.incoming place ≡ Some link
        → slice_get lefts (2 * place) ≡ Some listener → HasReadLink place link listener.work
