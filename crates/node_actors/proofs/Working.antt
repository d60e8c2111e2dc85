-- A worker's log goes on with its queue.
use Rattle.std.proofs.Common.{◌≡◌, List, [], ◌∷◌, ◌++◌, sym, ap, ◌∙◌}
use Rattle.std.proofs.lemmas.List.{append-nil, map-append}
use Rattle.std.proofs.lemmas.List.Concat.{flat_map-append}
use Rattle.mix_shard.specs.Items.{Item}
use Rattle.node_actors.specs.Fates.{ClaimsAsLogged, DealerState}
use Rattle.node_actors.specs.Packets.{arrived, arrived_packets, dealt_packet, dealt_packets, Packet}
use Rattle.node_actors.specs.Queues.{marks, Receiving}
use Rattle.node_actors.specs.Seats.{IsSameSeat, SeatState}
use Rattle.node_actors.specs.Working.{DealsWithNext, HasWorked, KeepsWorking, Worked, WorkerState}
use Rattle.node_actors.specs.declared.actors.fates.Dealt.{Dealt}
use Rattle.node_actors.specs.declared.queues.items.Item as queued
use Rattle.node_actors.proofs.Seating.{same_then}

-- one item more was popped
pub arrived_more : (popped : List queued.Item) (item : queued.Item) → arrived_packets (popped ++ item ∷ []) ≡ arrived_packets popped ++ arrived item.arrival
arrived_more popped item =
    flat_map-append (λ (x : queued.Item). arrived x.arrival) popped (item ∷ []) ∙ ap (λ (ps : List Packet). arrived_packets popped ++ ps) (append-nil (arrived item.arrival))

-- one packet more was dealt with
pub noted_more : (old new : List (Dealt Item)) (dealt : Dealt Item) (packet : Packet) → new ≡ old ++ dealt ∷ [] → dealt_packet dealt ≡ packet
    → dealt_packets new ≡ dealt_packets old ++ packet ∷ []
noted_more old new dealt packet is same =
    ap (λ (log : List (Dealt Item)). dealt_packets log) is
    ∙ (map-append dealt_packet old (dealt ∷ []) ∙ ap (λ (p : Packet). dealt_packets old ++ p ∷ []) same)

pub keeps_then : (a b c : WorkerState) → KeepsWorking a b → KeepsWorking b c → KeepsWorking a c
keeps_then a b c first second = record {
  same_seat = same_then a.dealer.seat b.dealer.seat c.dealer.seat first.same_seat second.same_seat;
  queue = second.queue ∙ first.queue;
  senders = second.senders ∙ first.senders;
}

-- a worker that dealt with one item more
pub worked_on : (old : WorkerState) (dealer : DealerState) (receiver : Receiving) → HasWorked old → DealsWithNext old.receiver old.dealer.log receiver dealer.log
    → HasWorked (record { dealer = dealer; queue = old.queue; receiver = receiver })
worked_on old dealer receiver has next = record {
  own = ap (λ (r : Receiving). r.queue) next.receiver ∙ has.own;
  log = next.dealt
      ∙ (ap (λ (ps : List Packet). ps ++ arrived next.item.arrival) has.log
      ∙ (sym (arrived_more old.receiver.popped next.item) ∙ ap (λ (r : Receiving). arrived_packets r.popped) (sym next.receiver)));
}

-- a worker that has ended
pub worked_end : (old served : WorkerState) (seat : SeatState) (log : List (Dealt Item)) → KeepsWorking old served → marks served.receiver.popped ≡ served.receiver.senders
    → HasWorked served → IsSameSeat served.dealer.seat seat → log ≡ served.dealer.log → ClaimsAsLogged seat log → Worked old seat log served.receiver
worked_end old served seat log kept ended has same log_is claims_are = record {
  same_seat = same_then old.dealer.seat served.dealer.seat seat kept.same_seat same;
  own = has.own ∙ kept.queue;
  senders = kept.senders;
  ended = ended;
  log_is = ap (λ (l : List (Dealt Item)). dealt_packets l) log_is ∙ has.log;
  claims_are = claims_are;
}
