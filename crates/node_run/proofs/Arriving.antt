-- What became of the packets that arrived, from what listeners and workers left: a packet of a fate log is one that a
-- listener took, and its number says which caller dealt with it.
use Rattle.std.proofs.Common.{◌≡◌, ◌≢◌, ◌⊎◌, ℕ, ◌+◌, ◌*◌, ◌%◌, ◌<◌, ◌==◌, ◌&&◌, Bool, true, false, List, [], ◌∷◌, length, map, refl, sym, ap, subst, ◌∙◌, inl, inr, arith, Option, Some, None, eq-eqb, eqb-true, mod-lt}
use Rattle.std.specs.Prelude.{AllPairs, Contains, flat_map, slice_get}
use Rattle.std.proofs.lemmas.Bool.{cases_Bool, cases_lt}
use Rattle.std.proofs.lemmas.List.Elements.{All-contains}
use Rattle.mix_base.specs.Suites.{SuiteMeaning}
use Rattle.mix_base.proofs.Members.{Contains-filter, Contains-head, Contains-map, none_in_empty}
use Rattle.mix_shard.specs.Items.{Item}
use Rattle.mix_shard.specs.declared.entries.Told.{Told}
use Rattle.turn_lock.specs.Seen.{Caller}
use Rattle.node_actors.specs.Connecting.{ConnectorState, KeeperState, RotatorState}
use Rattle.node_actors.specs.Listening.{handed, handed_where, kept, kept_where, number_at, taken_packet}
use Rattle.node_actors.specs.Logging.{LeavesConnector, LeavesKeeper, LeavesRotator, LeavesSpare}
use Rattle.node_actors.specs.Packets.{Packet, arrived, arrived_packets, dealt_packet, dealt_packets}
use Rattle.node_actors.specs.Queues.{items_of}
use Rattle.node_actors.specs.Seats.{SeatState}
use Rattle.node_actors.specs.declared.actors.fates.Dealt.{Dealt}
use Rattle.node_actors.specs.declared.actors.listening.Taken.{Taken}
use Rattle.node_actors.specs.declared.actors.works.Left.{Left}
use Rattle.node_actors.specs.declared.actors.works.Work.{Work}
use Rattle.node_actors.specs.declared.actors.works.Work.TheVariants.{Connected, Kept, Rotated, Ended}
use Rattle.node_actors.specs.declared.queues.items.Arrival.{Arrival}
use Rattle.node_actors.specs.declared.queues.items.Item as queued
use Rattle.node_run.specs.Accounts.{course_of, fates_of}
use Rattle.node_run.specs.Arrivals.{IsArrival, dealer_of, numbers_of}
use Rattle.node_run.specs.Lefts.{AreLeft, AreSettled, LeftAs, Staffing, new_connector, new_keeper, new_rotator, popped_by, pushed_to}
use Rattle.node_run.specs.Halls.{fresh_seat}
use Rattle.node_run.specs.Orders.{Differ, InOrder}
use Rattle.node_run.specs.Roles.{callers_for, role_of}
use Rattle.node_run.specs.declared.roles.Role.{Role}
use Rattle.node_run.specs.declared.roles.Role.TheVariants.{Listener, Worker, Keeper, Connector, Rotator, Spare}
use Rattle.node_run.proofs.Elements.{at_one, at_there, filter_from, flat_from, flat_to, get_there, in_one, map_from, pairs_by, pairs_flat, pairs_map, pairs_nil, pairs_none, pairs_one, pairs_pick, pairs_places, pairs_unflat, pairs_weaker}
use Rattle.node_run.proofs.Numbering.{class_same, course_rises, number_same}
use Rattle.node_run.proofs.Outcomes.{Listens, listens, works}
use Rattle.node_run.proofs.Playing.{Plays, is_listener, is_worker, listener_low, plays}

-- ---- the packets of a course that were kept, and those that were handed to one worker

kept_from : (is_handed : Bool) (packet p : Packet) → Contains (kept_where is_handed packet) p → (is_handed ≡ false) × (p ≡ packet)
kept_from true packet p there = absurd (none_in_empty p there)
kept_from false packet p there = (refl, sym (in_one packet p there))

handed_from : (is_handed : Bool) (worker i : ℕ) (packet p : Packet) → Contains (handed_where is_handed worker i packet) p → (is_handed ≡ true) × (worker ≡ i) × (p ≡ packet)
handed_from false worker i packet p there = absurd (none_in_empty p there)
handed_from true worker i packet p there =
    elim (cases_Bool (worker == i)) [
      | inl yes' ↦
          let here : Contains (packet ∷ []) p = rw yes' at there in
          (refl, eqb-true worker i yes', sym (in_one packet p here))
      | inr no' ↦
          let here : Contains [] p = rw no' at there in
          absurd (none_in_empty p here)
    ]

kept_few : (is_handed : Bool) (packet : Packet) → (kept_where is_handed packet ≡ []) ⊎ (kept_where is_handed packet ≡ packet ∷ [])
kept_few true packet = inl refl
kept_few false packet = inr refl

handed_few : (is_handed : Bool) (worker i : ℕ) (packet : Packet) → (handed_where is_handed worker i packet ≡ []) ⊎ (handed_where is_handed worker i packet ≡ packet ∷ [])
handed_few is_handed worker i packet = elim (cases_Bool (is_handed && (worker == i))) [ inl yes' ↦ inr (rw yes' refl) | inr no' ↦ inl (rw no' refl) ]

arrived_few : (arrival : Option Arrival) → AllPairs (λ (p q : Packet). p.number < q.number) (arrived arrival)
arrived_few None = pairs_nil (λ (p q : Packet). p.number < q.number)
arrived_few (Some arrival) = pairs_one (λ (p q : Packet). p.number < q.number) _

-- ---- those who deal with no packets

module _ {N O C : Type 0} (suite : SuiteMeaning) (left : N → Option (List ℕ)) (in_faults : N → ℕ) (given : O → Option (List (List ℕ))) (out_faults : O → ℕ)
    (may_give : C → ℕ → Type 0) (node : Staffing N O C) where
  keeper_none : (keeper : KeeperState C) (passes : List (Caller Told)) (work : Work Item N O) → LeavesKeeper suite may_give keeper passes work → fates_of work ≡ []
  keeper_none keeper passes (Kept local log unsent) leaves = refl
  keeper_none keeper passes _ leaves = absurd leaves

  connector_none : (connector : ConnectorState C) (passes : List (Caller Told)) (work : Work Item N O) → LeavesConnector suite may_give given out_faults connector passes work → fates_of work ≡ []
  connector_none connector passes (Connected hop link log unsent) leaves = refl
  connector_none connector passes _ leaves = absurd leaves

  rotator_none : (rotator : RotatorState C) (passes : List (Caller Told)) (work : Work Item N O) → LeavesRotator may_give rotator passes work → fates_of work ≡ []
  rotator_none rotator passes Rotated leaves = refl
  rotator_none rotator passes _ leaves = absurd leaves

  spare_none : (seat : SeatState) (passes : List (Caller Told)) (work : Work Item N O) → LeavesSpare seat passes work → fates_of work ≡ []
  spare_none seat passes Ended leaves = refl
  spare_none seat passes _ leaves = absurd leaves

  module _ (lefts : List (Left (Caller Told) Item N O)) (are : AreLeft suite left in_faults given out_faults may_give node lefts)
      (settled : AreSettled suite left in_faults given out_faults may_give node lefts) (workers_are : length node.hall.queues ≡ node.workers)
      (callers_are : node.hall.callers ≡ callers_for (length node.incoming) node.workers (length node.outgoing)) (some : 0 < node.workers) where
    abbrev pub listeners : ℕ
    listeners = length node.incoming

    abbrev Gave : Type 0
    Gave = Left (Caller Told) Item N O

    abbrev pub Is : ℕ → Packet → Type 0
    Is caller packet = IsArrival listeners lefts caller packet

    abbrev pushed : ℕ → Gave → List queued.Item
    pushed w gave = pushed_to suite left in_faults given out_faults may_give node w gave.work

    abbrev popped : Gave → List queued.Item
    popped gave = popped_by suite left in_faults given out_faults may_give node gave.work

    abbrev role : ℕ → Role
    role caller = role_of listeners node.workers (length node.outgoing) caller

    abbrev LeftBy : Role → ℕ → Gave → Type 0
    LeftBy r caller gave = LeftAs suite left in_faults given out_faults may_give node r caller gave

    -- ---- listeners and workers by their places

    there : (caller : ℕ) → caller < callers_for listeners node.workers (length node.outgoing) → (gave : Gave) × (slice_get lefts caller ≡ Some gave)
    there caller low = let many = are.many in get_there lefts caller (omega (arith, low, many, callers_are))

    pub listener_at : (place : ℕ) (gave : Gave) → place < listeners → slice_get lefts (2 * place) ≡ Some gave
        → Listens suite left in_faults given out_faults may_give node place gave.work
    listener_at place gave low is =
        let leaves = subst (λ (r : Role). LeftBy r (2 * place) gave) (is_listener listeners node.workers (length node.outgoing) place low) (are.each (2 * place) gave is) in
        listens suite left in_faults given out_faults may_give node place (2 * place) leaves.0 leaves.2 gave.passes.items gave.work leaves.3 leaves.4

    worker_at : (place : ℕ) (gave : Gave) → place < node.workers → slice_get lefts (2 * (listeners + place)) ≡ Some gave
        → dealt_packets (fates_of gave.work) ≡ arrived_packets (popped gave)
    worker_at place gave low is =
        let caller = 2 * (listeners + place) in
        let leaves = subst (λ (r : Role). LeftBy r caller gave) (is_worker listeners node.workers (length node.outgoing) place low) (are.each caller gave is) in
        works suite left in_faults given out_faults may_give node leaves.0 gave.passes.items gave.work leaves.2

    -- what lies in a worker's hands of one listener is what that one handed to him
    from_listener : (k w : ℕ) (listener worker : Gave) → k < listeners → w < node.workers → slice_get lefts (2 * k) ≡ Some listener
        → slice_get lefts (2 * (listeners + w)) ≡ Some worker → arrived_packets (items_of k (popped worker)) ≡ handed w (course_of listener.work)
    from_listener k w listener worker low low' is is' =
        ap (λ (xs : List queued.Item). arrived_packets xs) (settled.all k w listener worker low low' is is')
        ∙ (listener_at k listener low is).pushed_is w (subst (λ (n : ℕ). w < n) (sym workers_are) low')

    -- ---- a record is of a packet that arrived

    listener_record : (place caller : ℕ) (gave : Gave) (packet : Packet) → caller ≡ 2 * place → place < listeners → slice_get lefts caller ≡ Some gave
        → Contains (dealt_packets (fates_of gave.work)) packet → Is caller packet
    listener_record place caller gave packet number low is found =
        let at : slice_get lefts (2 * place) ≡ Some gave = ap (λ (n : ℕ). slice_get lefts n) (sym number) ∙ is in
        let listening = listener_at place gave low at in
        let of = flat_from (λ (t : Taken). kept_where t.handed (taken_packet t)) (course_of gave.work) packet (subst (λ (ps : List Packet). Contains ps packet) listening.log_is found) in
        let kept' = kept_from of.0.handed (taken_packet of.0) packet of.2 in
        let dealer : dealer_of listeners place of.0 ≡ 2 * place = rw kept'.0 refl in
        record { place = place; low = low; listener = gave; there = at; taken = of.0; is_taken = of.1; packet_is = kept'.1; dealer = number ∙ sym dealer }

    -- an item that a worker popped
    popped_record : (w : ℕ) (gave : Gave) (x : queued.Item) (packet : Packet) → w < node.workers → slice_get lefts (2 * (listeners + w)) ≡ Some gave
        → Contains (popped gave) x → Contains (arrived x.arrival) packet → (is : Is (2 * (listeners + w)) packet) × (is.place ≡ x.from)
    popped_record w gave x packet low is popped_x holds =
        let k = x.from in
        let from : k < listeners = All-contains (λ (y : queued.Item). y.from < listeners) (popped gave) x (settled.from w gave low is) popped_x in
        let listener = there (2 * k) (listener_low listeners node.workers (length node.outgoing) k from) in
        let his : Contains (items_of k (popped gave)) x = Contains-filter (λ y. y.from == k) (popped gave) x popped_x (eq-eqb k k refl) in
        let given_to : Contains (handed w (course_of listener.0.work)) packet =
        subst (λ (ps : List Packet). Contains ps packet) (from_listener k w listener.0 gave from low listener.1 is)
        (flat_to (λ (y : queued.Item). arrived y.arrival) (items_of k (popped gave)) x packet his holds) in
        let of = flat_from (λ (t : Taken). handed_where t.handed t.worker w (taken_packet t)) (course_of listener.0.work) packet given_to in
        let handed' = handed_from of.0.handed of.0.worker w (taken_packet of.0) packet of.2 in
        let dealer : dealer_of listeners k of.0 ≡ 2 * (listeners + w) = rw handed'.0 (ap (λ (n : ℕ). 2 * (listeners + n)) handed'.1) in
        (record { place = k; low = from; listener = listener.0; there = listener.1; taken = of.0; is_taken = of.1; packet_is = handed'.2; dealer = sym dealer }, refl)

    worker_record : (place caller : ℕ) (gave : Gave) (packet : Packet) → caller ≡ 2 * (listeners + place) → place < node.workers → slice_get lefts caller ≡ Some gave
        → Contains (dealt_packets (fates_of gave.work)) packet → Is caller packet
    worker_record place caller gave packet number low is found =
        let at : slice_get lefts (2 * (listeners + place)) ≡ Some gave = ap (λ (n : ℕ). slice_get lefts n) (sym number) ∙ is in
        let of = flat_from (λ (x : queued.Item). arrived x.arrival) (popped gave) packet (subst (λ (ps : List Packet). Contains ps packet) (worker_at place gave low at) found) in
        subst (λ (n : ℕ). Is n packet) (sym number) (popped_record place gave of.0 packet low at of.1 of.2).0

    none_record : (caller : ℕ) (gave : Gave) (packet : Packet) → fates_of gave.work ≡ [] → Contains (dealt_packets (fates_of gave.work)) packet → Is caller packet
    none_record caller gave packet none found =
        absurd (none_in_empty packet (subst (λ (log : List (Dealt Item)). Contains (dealt_packets log) packet) none found))

    by_role : (r : Role) (caller : ℕ) (gave : Gave) (packet : Packet) → Plays listeners node.workers (length node.outgoing) caller r → LeftBy r caller gave
        → slice_get lefts caller ≡ Some gave → Contains (dealt_packets (fates_of gave.work)) packet → Is caller packet
    by_role (Listener place) caller gave packet plays' leaves is found = listener_record place caller gave packet plays'.0 plays'.1 is found
    by_role (Worker place) caller gave packet plays' leaves is found = worker_record place caller gave packet plays'.0 plays'.1 is found
    by_role Keeper caller gave packet plays' leaves is found =
        none_record caller gave packet (keeper_none (new_keeper suite left in_faults given out_faults may_give node caller) gave.passes.items gave.work leaves) found
    by_role (Connector place) caller gave packet plays' leaves is found =
        none_record caller gave packet (connector_none (new_connector suite left in_faults given out_faults may_give node caller leaves.0) gave.passes.items gave.work leaves.2) found
    by_role Rotator caller gave packet plays' leaves is found =
        none_record caller gave packet (rotator_none (new_rotator suite left in_faults given out_faults may_give node caller) gave.passes.items gave.work leaves) found
    by_role Spare caller gave packet plays' leaves is found =
        none_record caller gave packet (spare_none (fresh_seat node.hall caller) gave.passes.items gave.work leaves) found

    pub record_arrived : (caller : ℕ) (gave : Gave) (packet : Packet) → slice_get lefts caller ≡ Some gave → Contains (dealt_packets (fates_of gave.work)) packet → Is caller packet
    record_arrived caller gave packet is found =
        by_role (role caller) caller gave packet (plays listeners node.workers (length node.outgoing) caller) (are.each caller gave is) is found

    -- ---- and each packet that arrived has a record

    arrived_kept : (caller : ℕ) (gave : Gave) (packet : Packet) → slice_get lefts caller ≡ Some gave → (is : Is caller packet) → is.taken.handed ≡ false
        → Contains (dealt_packets (fates_of gave.work)) packet
    arrived_kept caller gave packet at is no_hand =
        let dealer : dealer_of listeners is.place is.taken ≡ 2 * is.place = rw no_hand refl in
        let here : slice_get lefts (2 * is.place) ≡ Some gave = ap (λ (n : ℕ). slice_get lefts n) (sym (is.dealer ∙ dealer)) ∙ at in
        let same : is.listener ≡ gave = at_one lefts (2 * is.place) is.listener gave is.there here in
        let taken : Contains (course_of gave.work) is.taken = subst (λ (g : Gave). Contains (course_of g.work) is.taken) same is.is_taken in
        let own : Contains (kept_where is.taken.handed (taken_packet is.taken)) packet =
        rw no_hand (subst (λ (p : Packet). Contains (taken_packet is.taken ∷ []) p) (sym is.packet_is) (Contains-head (taken_packet is.taken) [])) in
        subst (λ (ps : List Packet). Contains ps packet) (sym (listener_at is.place gave is.low here).log_is)
        (flat_to (λ (t : Taken). kept_where t.handed (taken_packet t)) (course_of gave.work) is.taken packet taken own)

    arrived_handed : (caller : ℕ) (gave : Gave) (packet : Packet) → slice_get lefts caller ≡ Some gave → (is : Is caller packet) → is.taken.handed ≡ true
        → Contains (dealt_packets (fates_of gave.work)) packet
    arrived_handed caller gave packet at is hand =
        let w = is.taken.worker in
        let listening = listener_at is.place is.listener is.low is.there in
        let number = at_there (course_of is.listener.work) is.taken is.is_taken in
        let turn : w ≡ number.0 % length node.hall.queues = (listening.turns number.0 is.taken number.1).worker in
        let some_queue : 0 < length node.hall.queues = subst (λ (n : ℕ). 0 < n) (sym workers_are) some in
        let low_queue : w < length node.hall.queues = subst (λ (n : ℕ). n < length node.hall.queues) (sym turn) (mod-lt number.0 some_queue) in
        let low : w < node.workers = subst (λ (n : ℕ). w < n) workers_are low_queue in
        let dealer : dealer_of listeners is.place is.taken ≡ 2 * (listeners + w) = rw hand refl in
        let here : slice_get lefts (2 * (listeners + w)) ≡ Some gave = ap (λ (n : ℕ). slice_get lefts n) (sym (is.dealer ∙ dealer)) ∙ at in
        let own : Contains (handed_where is.taken.handed w w (taken_packet is.taken)) packet =
        rw (hand, eq-eqb w w refl) (subst (λ (p : Packet). Contains (taken_packet is.taken ∷ []) p) (sym is.packet_is) (Contains-head (taken_packet is.taken) [])) in
        let given_to : Contains (handed w (course_of is.listener.work)) packet =
        flat_to (λ (t : Taken). handed_where t.handed t.worker w (taken_packet t)) (course_of is.listener.work) is.taken packet is.is_taken own in
        let his : Contains (arrived_packets (items_of is.place (popped gave))) packet =
        subst (λ (ps : List Packet). Contains ps packet) (sym (from_listener is.place w is.listener gave is.low low is.there here)) given_to in
        let of = flat_from (λ (x : queued.Item). arrived x.arrival) (items_of is.place (popped gave)) packet his in
        let all = filter_from (λ (x : queued.Item). x.from == is.place) (popped gave) of.0 of.1 in
        subst (λ (ps : List Packet). Contains ps packet) (sym (worker_at w gave low here)) (flat_to (λ (x : queued.Item). arrived x.arrival) (popped gave) of.0 packet all.0 of.2)

    pub arrived_recorded : (caller : ℕ) (gave : Gave) (packet : Packet) → slice_get lefts caller ≡ Some gave → Is caller packet → Contains (dealt_packets (fates_of gave.work)) packet
    arrived_recorded caller gave packet at is =
        elim (cases_Bool is.taken.handed) [
          | inl hand ↦ arrived_handed caller gave packet at is hand
          | inr no_hand ↦ arrived_kept caller gave packet at is no_hand
        ]

    -- ---- a number says who deals with the packet

    number_is : (caller : ℕ) (packet : Packet) → (is : Is caller packet) → (j : ℕ) × (slice_get (course_of is.listener.work) j ≡ Some is.taken) × (packet.number ≡ number_at listeners is.place j)
    number_is caller packet is =
        let at = at_there (course_of is.listener.work) is.taken is.is_taken in
        (at.0, at.1, ap (λ (p : Packet). p.number) is.packet_is ∙ ((listener_at is.place is.listener is.low is.there).turns at.0 is.taken at.1).number)

    pub one_arrival : (c d : ℕ) (p q : Packet) → Is c p → Is d q → p.number ≡ q.number → (c ≡ d) × (p ≡ q)
    one_arrival c d p q is is' same =
        let first = number_is c p is in
        let second = number_is d q is' in
        let both = number_same listeners is.place is'.place first.0 second.0 is.low is'.low (sym first.2 ∙ (same ∙ second.2)) in
        let one_listener : is.listener ≡ is'.listener = at_one lefts (2 * is.place) is.listener is'.listener is.there (ap (λ (k : ℕ). slice_get lefts (2 * k)) both.1 ∙ is'.there) in
        let here : slice_get (course_of is'.listener.work) second.0 ≡ Some is.taken =
        subst (λ (z : Gave × ℕ). slice_get (course_of z.0.work) z.1 ≡ Some is.taken) (λ i. (one_listener i, both.0 i)) first.1 in
        let one_taken : is.taken ≡ is'.taken = at_one (course_of is'.listener.work) second.0 is.taken is'.taken here second.1 in (
          is.dealer ∙ ((λ i. dealer_of listeners (both.1 i) (one_taken i)) ∙ sym is'.dealer),
          is.packet_is ∙ (ap (λ (t : Taken). taken_packet t) one_taken ∙ sym is'.packet_is),
        )

    -- packets of two listeners have other remainders
    pub one_class : (c d : ℕ) (p q : Packet) → (is : Is c p) → (is' : Is d q) → p.number % listeners ≡ q.number % listeners → is.place ≡ is'.place
    one_class c d p q is is' same =
        let first = number_is c p is in
        let second = number_is d q is' in
        class_same listeners is.place is'.place first.0 second.0 is.low is'.low
        (ap (λ (n : ℕ). n % listeners) (sym first.2) ∙ (same ∙ ap (λ (n : ℕ). n % listeners) second.2))

    -- ---- a caller has the packets of one listener in the order of their numbers

    abbrev Rises : Packet → Packet → Type 0
    Rises p q = p.number < q.number

    abbrev Ordered : Packet → Packet → Type 0
    Ordered p q = p.number % listeners ≡ q.number % listeners → p.number < q.number

    kept_rises : (place : ℕ) (gave : Gave) → place < listeners → slice_get lefts (2 * place) ≡ Some gave → AllPairs Rises (kept (course_of gave.work))
    kept_rises place gave low is =
        let listening = listener_at place gave low is in
        pairs_pick Rises (λ (t : Taken). kept_where t.handed (taken_packet t)) taken_packet (course_of gave.work) (λ t there'. kept_few t.handed (taken_packet t))
        (pairs_map Rises taken_packet (course_of gave.work) (course_rises listeners place (length node.hall.queues) (omega arith) (course_of gave.work) listening.turns))

    handed_rises : (w place : ℕ) (gave : Gave) → place < listeners → slice_get lefts (2 * place) ≡ Some gave → AllPairs Rises (handed w (course_of gave.work))
    handed_rises w place gave low is =
        let listening = listener_at place gave low is in
        pairs_pick Rises (λ (t : Taken). handed_where t.handed t.worker w (taken_packet t)) taken_packet (course_of gave.work) (λ t there'. handed_few t.handed t.worker w (taken_packet t))
        (pairs_map Rises taken_packet (course_of gave.work) (course_rises listeners place (length node.hall.queues) (omega arith) (course_of gave.work) listening.turns))

    -- what a worker popped: of one listener it rises, and of two the remainders differ
    abbrev Behind : queued.Item → queued.Item → Type 0
    Behind x y = (p q : Packet) → Contains (arrived x.arrival) p → Contains (arrived y.arrival) q → Ordered p q

    popped_ordered : (w : ℕ) (gave : Gave) → w < node.workers → slice_get lefts (2 * (listeners + w)) ≡ Some gave → AllPairs Behind (popped gave)
    popped_ordered w gave low is = pairs_by Behind (λ (x : queued.Item). x.from) (popped gave) one other
      where
        one : (k : ℕ) → AllPairs Behind (items_of k (popped gave))
        one k =
            elim (cases_lt k listeners) [
              | inl from ↦
                  let listener = there (2 * k) (listener_low listeners node.workers (length node.outgoing) k from) in
                  let rises : AllPairs Rises (arrived_packets (items_of k (popped gave))) =
                  subst (λ (ps : List Packet). AllPairs Rises ps) (sym (from_listener k w listener.0 gave from low listener.1 is)) (handed_rises w k listener.0 from listener.1) in
                  pairs_weaker Behind {S = λ x y. (p q : Packet) → Contains (arrived x.arrival) p → Contains (arrived y.arrival) q → Rises p q} (items_of k (popped gave))
                  (λ x y less p q in_first in_second same. less p q in_first in_second)
                  (pairs_unflat Rises (λ (x : queued.Item). arrived x.arrival) (items_of k (popped gave)) rises)
              | inr past ↦ pairs_none Behind (items_of k (popped gave)) (λ x found.
                  let all = filter_from (λ (y : queued.Item). y.from == k) (popped gave) x found in
                  let from : x.from < listeners = All-contains (λ (y : queued.Item). y.from < listeners) (popped gave) x (settled.from w gave low is) all.0 in
                  let same : x.from ≡ k = eqb-true x.from k all.1 in
                  omega arith)
            ]

        other : (x y : queued.Item) → Contains (popped gave) x → Contains (popped gave) y → x.from ≢ y.from → Behind x y
        other x y in_first in_second apart p q holds holds' same =
            let caller = 2 * (listeners + w) in
            let first = popped_record w gave x p low is in_first holds in
            let second = popped_record w gave y q low is in_second holds' in
            absurd (apart (sym first.1 ∙ (one_class caller caller p q first.0 second.0 same ∙ second.1)))

    none_ordered : (gave : Gave) → fates_of gave.work ≡ [] → AllPairs Ordered (dealt_packets (fates_of gave.work))
    none_ordered gave none = subst (λ (log : List (Dealt Item)). AllPairs Ordered (dealt_packets log)) (sym none) (pairs_nil Ordered)

    log_ordered : (r : Role) (caller : ℕ) (gave : Gave) → Plays listeners node.workers (length node.outgoing) caller r → LeftBy r caller gave
        → slice_get lefts caller ≡ Some gave → AllPairs Ordered (dealt_packets (fates_of gave.work))
    log_ordered (Listener place) caller gave plays' leaves is =
        let at : slice_get lefts (2 * place) ≡ Some gave = ap (λ (n : ℕ). slice_get lefts n) (sym plays'.0) ∙ is in
        subst (λ (ps : List Packet). AllPairs Ordered ps) (sym (listener_at place gave plays'.1 at).log_is)
        (pairs_weaker Ordered {S = Rises} (kept (course_of gave.work)) (λ p q less same. less) (kept_rises place gave plays'.1 at))
    log_ordered (Worker place) caller gave plays' leaves is =
        let at : slice_get lefts (2 * (listeners + place)) ≡ Some gave = ap (λ (n : ℕ). slice_get lefts n) (sym plays'.0) ∙ is in
        subst (λ (ps : List Packet). AllPairs Ordered ps) (sym (worker_at place gave plays'.1 at))
        (pairs_flat Ordered (λ (x : queued.Item). arrived x.arrival) (popped gave)
        (λ x found. pairs_weaker Ordered {S = Rises} (arrived x.arrival) (λ p q less same. less) (arrived_few x.arrival))
        (popped_ordered place gave plays'.1 at))
    log_ordered Keeper caller gave plays' leaves is =
        none_ordered gave (keeper_none (new_keeper suite left in_faults given out_faults may_give node caller) gave.passes.items gave.work leaves)
    log_ordered (Connector place) caller gave plays' leaves is =
        none_ordered gave (connector_none (new_connector suite left in_faults given out_faults may_give node caller leaves.0) gave.passes.items gave.work leaves.2)
    log_ordered Rotator caller gave plays' leaves is =
        none_ordered gave (rotator_none (new_rotator suite left in_faults given out_faults may_give node caller) gave.passes.items gave.work leaves)
    log_ordered Spare caller gave plays' leaves is = none_ordered gave (spare_none (fresh_seat node.hall caller) gave.passes.items gave.work leaves)

    pub packets_ordered : (caller : ℕ) (gave : Gave) → slice_get lefts caller ≡ Some gave → AllPairs Ordered (dealt_packets (fates_of gave.work))
    packets_ordered caller gave is =
        log_ordered (role caller) caller gave (plays listeners node.workers (length node.outgoing) caller) (are.each caller gave is) is

    -- ---- no number has two records

    numbers_same : (log : List (Dealt Item)) → map (λ (p : Packet). p.number) (dealt_packets log) ≡ numbers_of log
    numbers_same [] = refl
    numbers_same (dealt ∷ others) = λ i. dealt.number ∷ numbers_same others i

    pub numbers_ordered : (caller : ℕ) (gave : Gave) → slice_get lefts caller ≡ Some gave → InOrder listeners (numbers_of (fates_of gave.work))
    numbers_ordered caller gave is =
        subst (λ (ns : List ℕ). InOrder listeners ns) (numbers_same (fates_of gave.work))
        (pairs_map (λ (x y : ℕ). x % listeners ≡ y % listeners → x < y) (λ (p : Packet). p.number) (dealt_packets (fates_of gave.work)) (packets_ordered caller gave is))

    -- a record's packet
    pub record_is : (caller : ℕ) (gave : Gave) (dealt : Dealt Item) → slice_get lefts caller ≡ Some gave → Contains (fates_of gave.work) dealt → Is caller (dealt_packet dealt)
    record_is caller gave dealt is found = record_arrived caller gave (dealt_packet dealt) is (Contains-map dealt_packet (fates_of gave.work) dealt found)

    number_record : (caller : ℕ) (gave : Gave) (n : ℕ) → slice_get lefts caller ≡ Some gave → Contains (numbers_of (fates_of gave.work)) n
        → (p : Packet) × Is caller p × (p.number ≡ n)
    number_record caller gave n is found =
        let of = map_from (λ (dealt : Dealt Item). dealt.number) (fates_of gave.work) n found in
        (dealt_packet of.0, record_is caller gave of.0 is of.1, of.2)

    pub differ_one : (caller : ℕ) (gave : Gave) → slice_get lefts caller ≡ Some gave → Differ (numbers_of (fates_of gave.work))
    differ_one caller gave is =
        pairs_weaker (λ (x y : ℕ). x ≢ y) {S = λ x y. x % listeners ≡ y % listeners → x < y} (numbers_of (fates_of gave.work))
        (λ x y rises same. let less = rises (ap (λ (n : ℕ). n % listeners) same) in omega arith) (numbers_ordered caller gave is)

    pub once : Differ (flat_map (λ (gave : Gave). numbers_of (fates_of gave.work)) lefts)
    once =
        pairs_flat (λ (x y : ℕ). x ≢ y) (λ (gave : Gave). numbers_of (fates_of gave.work)) lefts
        (λ gave found. let at = at_there lefts gave found in differ_one at.0 gave at.1)
        (pairs_places (λ (g h : Gave). (a b : ℕ) → Contains (numbers_of (fates_of g.work)) a → Contains (numbers_of (fates_of h.work)) b → a ≢ b) lefts
        (λ c d g h low is is' a b in_first in_second same.
        let first = number_record c g a is in_first in
        let second = number_record d h b is' in_second in
        let one = (one_arrival c d first.0 second.0 first.1 second.1 (first.2 ∙ (same ∙ sym second.2))).0 in
        omega arith))
