-- What the callers of a node left, by their roles, is what closing it asks.
use Rattle.std.proofs.Common.{◌≡◌, ℕ, suc, ◌+◌, ◌*◌, ◌<◌, max, List, [], ◌∷◌, length, fold, Option, Some, option_map, refl, sym, ap, subst, ◌∙◌, arith}
use Rattle.std.specs.Global.{Vec}
use Rattle.std.specs.Prelude.{All, slice_get}
use Rattle.std.proofs.lemmas.List.{length-map}
use Rattle.std.proofs.lemmas.Option.{slice_get-map}
use Rattle.mix_base.specs.Suites.{SuiteMeaning}
use Rattle.mix_shard.specs.Items.{Item}
use Rattle.mix_shard.specs.declared.entries.Told.{Told}
use Rattle.turn_lock.specs.Seen.{Caller}
use Rattle.atomic_table.specs.Seated.{TableId}
use Rattle.node_actors.specs.Leaving.{LeavesSeat}
use Rattle.node_actors.specs.Listening as listening
use Rattle.node_actors.specs.Logging.{LeavesConnector, LeavesKeeper, LeavesListener, LeavesRotator, LeavesSpare, LeavesWorker}
use Rattle.node_actors.specs.Queues.{Receiving, Sending, items_of, marks}
use Rattle.node_actors.specs.Seats.{SeatState}
use Rattle.node_actors.specs.Working as working
use Rattle.node_actors.specs.declared.actors.works.Left.{Left}
use Rattle.node_actors.specs.declared.actors.works.Work.{Work}
use Rattle.node_actors.specs.declared.actors.works.Work.TheVariants.{Listened, Worked, Connected, Kept, Rotated, Ended, Fed}
use Rattle.node_actors.proofs.Seating.{get_low, get_there, some_same}
use Rattle.node_run.specs.Accounts.{hands_of}
use Rattle.node_run.specs.Closings.{AreHands}
use Rattle.node_run.specs.Ends.{CanEnd}
use Rattle.node_run.specs.Gatherings.{all_of, link_in, link_out_in, local_after, local_in, receiver_in, senders_in}
use Rattle.node_run.specs.Halls.{IsHall, IsHallLock, fresh_dealer, fresh_seat}
use Rattle.node_run.specs.Lefts as lefts
use Rattle.node_run.specs.Lefts.{Staffing}
use Rattle.node_run.specs.Roles.{callers_for, role_of}
use Rattle.node_run.specs.Settlings.{AreAllPopped, AreSendersOf, CanSettle}
use Rattle.node_run.specs.declared.roles.Role.{Role}
use Rattle.node_run.specs.declared.roles.Role.TheVariants as role
use Rattle.node_run.proofs.Columns.{all_at}
use Rattle.node_run.proofs.CallerKinds.{connector_place, connector_role, keeper_place, kind, listener_place, worker_place, worker_role}
use Rattle.node_run.proofs.Playing.{is_listener}
use Rattle.node_run.proofs.Spaced.{AreSpaced, spaced_at, spaced_many}

-- ---- works by kind

module _ {P N O : Type 0} where
  -- the kinds of works are those of their roles
  abbrev kind_of : Work P N O → ℕ
  kind_of (Listened link log dropped senders course ending) = 0
  kind_of (Worked receiver log dropped) = 1
  kind_of (Kept local log unsent) = 2
  kind_of (Connected hop link log unsent) = 3
  kind_of Rotated = 4
  kind_of Ended = 5
  kind_of (Fed link) = 6

  one_link : (work : Work P N O) → kind_of work ≡ 0 → (link : N) × (link_in work ≡ link ∷ [])
  one_link (Listened link log dropped senders course ending) is = (link, refl)
  one_link (Worked receiver log dropped) is = absurd (omega (arith, is))
  one_link (Kept local log unsent) is = absurd (omega (arith, is))
  one_link (Connected hop link log unsent) is = absurd (omega (arith, is))
  one_link Rotated is = absurd (omega (arith, is))
  one_link Ended is = absurd (omega (arith, is))
  one_link (Fed link) is = absurd (omega (arith, is))

  no_link : (work : Work P N O) → (kind_of work ≡ 0 → ⊥) → link_in work ≡ []
  no_link (Listened link log dropped senders course ending) other = absurd (other refl)
  no_link _ other = refl

  one_list : (work : Work P N O) → kind_of work ≡ 0 → (senders : Vec Sending) × (senders_in work ≡ senders ∷ [])
  one_list (Listened link log dropped senders course ending) is = (senders, refl)
  one_list (Worked receiver log dropped) is = absurd (omega (arith, is))
  one_list (Kept local log unsent) is = absurd (omega (arith, is))
  one_list (Connected hop link log unsent) is = absurd (omega (arith, is))
  one_list Rotated is = absurd (omega (arith, is))
  one_list Ended is = absurd (omega (arith, is))
  one_list (Fed link) is = absurd (omega (arith, is))

  no_list : (work : Work P N O) → (kind_of work ≡ 0 → ⊥) → senders_in work ≡ []
  no_list (Listened link log dropped senders course ending) other = absurd (other refl)
  no_list _ other = refl

  one_receiver : (work : Work P N O) → kind_of work ≡ 1 → (receiver : Receiving) × (receiver_in work ≡ receiver ∷ [])
  one_receiver (Listened link log dropped senders course ending) is = absurd (omega (arith, is))
  one_receiver (Worked receiver log dropped) is = (receiver, refl)
  one_receiver (Kept local log unsent) is = absurd (omega (arith, is))
  one_receiver (Connected hop link log unsent) is = absurd (omega (arith, is))
  one_receiver Rotated is = absurd (omega (arith, is))
  one_receiver Ended is = absurd (omega (arith, is))
  one_receiver (Fed link) is = absurd (omega (arith, is))

  no_receiver : (work : Work P N O) → (kind_of work ≡ 1 → ⊥) → receiver_in work ≡ []
  no_receiver (Worked receiver log dropped) other = absurd (other refl)
  no_receiver _ other = refl

  one_out : (work : Work P N O) → kind_of work ≡ 3 → (out : List ℕ × O) × (link_out_in work ≡ out ∷ [])
  one_out (Listened link log dropped senders course ending) is = absurd (omega (arith, is))
  one_out (Worked receiver log dropped) is = absurd (omega (arith, is))
  one_out (Kept local log unsent) is = absurd (omega (arith, is))
  one_out (Connected hop link log unsent) is = ((hop, link), refl)
  one_out Rotated is = absurd (omega (arith, is))
  one_out Ended is = absurd (omega (arith, is))
  one_out (Fed link) is = absurd (omega (arith, is))

  no_out : (work : Work P N O) → (kind_of work ≡ 3 → ⊥) → link_out_in work ≡ []
  no_out (Connected hop link log unsent) other = absurd (other refl)
  no_out _ other = refl

  same_local : (work : Work P N O) (before : List P) → (kind_of work ≡ 2 → ⊥) → local_after before work ≡ before
  same_local (Kept local log unsent) before other = absurd (other refl)
  same_local _ before other = refl

-- ---- one caller

module _ {N O C : Type 0} (suite : SuiteMeaning) (left : N → Option (List ℕ)) (in_faults : N → ℕ) (given : O → Option (List (List ℕ))) (out_faults : O → ℕ)
    (may_give : C → ℕ → Type 0) (node : Staffing N O C) where
  abbrev LeftAs : Role → ℕ → Left (Caller Told) Item N O → Type 0
  LeftAs = lefts.LeftAs suite left in_faults given out_faults may_give node

  abbrev seat : ℕ → SeatState
  seat caller = fresh_seat node.hall caller

  -- what it left is of its role's kind, and it holds no shard
  record Leaves (r : Role) (caller : ℕ) (passes : List (Caller Told)) (work : Work Item N O) : Type 0 where
    kind_is : kind_of work ≡ kind r
    seated : LeavesSeat (seat caller) passes

  listener_leaves : (place caller : ℕ) (passes : List (Caller Told)) (listener : listening.ListenerState C) (link : N) (work : Work Item N O)
      → listener.dealer ≡ fresh_dealer node.hall caller → LeavesListener suite may_give left in_faults listener passes work → Leaves (role.Listener place) caller passes work
  listener_leaves place caller passes listener link (Listened l log dropped senders course ending) fresh leaves = record {
    kind_is = refl;
    seated = subst (λ d. LeavesSeat d.seat passes) fresh leaves.0.seated;
  }
  listener_leaves place caller passes listener link _ fresh leaves = absurd leaves

  worker_leaves : (place caller : ℕ) (passes : List (Caller Told)) (worker : working.WorkerState) (work : Work Item N O) → worker.dealer ≡ fresh_dealer node.hall caller
      → LeavesWorker suite worker passes work → Leaves (role.Worker place) caller passes work
  worker_leaves place caller passes worker (Worked receiver log dropped) fresh leaves = record {
    kind_is = refl;
    seated = subst (λ d. LeavesSeat d.seat passes) fresh leaves.0.seated;
  }
  worker_leaves place caller passes worker _ fresh leaves = absurd leaves

  keeper_leaves : (caller : ℕ) (passes : List (Caller Told)) (work : Work Item N O)
      → LeavesKeeper suite may_give (lefts.new_keeper suite left in_faults given out_faults may_give node caller) passes work → Leaves role.Keeper caller passes work
  keeper_leaves caller passes (Kept local log unsent) leaves = record { kind_is = refl; seated = leaves.0.claims.seated }
  keeper_leaves caller passes _ leaves = absurd leaves

  connector_leaves : (place caller : ℕ) (passes : List (Caller Told)) (out : List ℕ × O) (work : Work Item N O)
      → LeavesConnector suite may_give given out_faults (lefts.new_connector suite left in_faults given out_faults may_give node caller out) passes work
      → Leaves (role.Connector place) caller passes work
  connector_leaves place caller passes out (Connected hop link log unsent) leaves =
      record { kind_is = refl; seated = leaves.1.claims.seated }
  connector_leaves place caller passes out _ leaves = absurd leaves

  rotator_leaves : (caller : ℕ) (passes : List (Caller Told)) (work : Work Item N O)
      → LeavesRotator may_give (lefts.new_rotator suite left in_faults given out_faults may_give node caller) passes work → Leaves role.Rotator caller passes work
  rotator_leaves caller passes Rotated leaves = record { kind_is = refl; seated = leaves.0.seated }
  rotator_leaves caller passes _ leaves = absurd leaves

  spare_leaves : (caller : ℕ) (passes : List (Caller Told)) (work : Work Item N O) → LeavesSpare (seat caller) passes work → Leaves role.Spare caller passes work
  spare_leaves caller passes Ended leaves = record { kind_is = refl; seated = leaves.0.seated }
  spare_leaves caller passes _ leaves = absurd leaves

  caller_leaves : (r : Role) (caller : ℕ) (gave : Left (Caller Told) Item N O) → LeftAs r caller gave → Leaves r caller gave.passes.items gave.work
  caller_leaves (role.Listener place) caller gave is = listener_leaves place caller gave.passes.items is.2 is.0 gave.work is.3.dealer is.4
  caller_leaves (role.Worker place) caller gave is = worker_leaves place caller gave.passes.items is.0 gave.work is.1.dealer is.2
  caller_leaves role.Keeper caller gave is = keeper_leaves caller gave.passes.items gave.work is
  caller_leaves (role.Connector place) caller gave is = connector_leaves place caller gave.passes.items is.0 gave.work is.2
  caller_leaves role.Rotator caller gave is = rotator_leaves caller gave.passes.items gave.work is
  caller_leaves role.Spare caller gave is = spare_leaves caller gave.passes.items gave.work is

  -- ---- all callers

  -- how many callers and queues the node has
  pub record HasSizes : Type 0 where
    pub callers : node.hall.callers ≡ callers_for (length node.incoming) node.workers (length node.outgoing)
    pub queues : length node.hall.queues ≡ node.workers

  abbrev listeners : ℕ
  listeners = length node.incoming

  abbrev links : ℕ
  links = length node.outgoing

  abbrev role_at : ℕ → Role
  role_at c = role_of listeners node.workers links c

  module _ (sizes : HasSizes) (all : List (Left (Caller Told) Item N O)) (are : lefts.AreLeft suite left in_faults given out_faults may_give node all) where
    abbrev Gave : Type 0
    Gave = Left (Caller Told) Item N O

    leaves : (c : ℕ) (gave : Gave) → slice_get all c ≡ Some gave → Leaves (role_at c) c gave.passes.items gave.work
    leaves c gave is = caller_leaves (role_at c) c gave (are.each c gave is)

    as_role : (r : Role) (c : ℕ) (gave : Gave) → role_at c ≡ r → slice_get all c ≡ Some gave → LeftAs r c gave
    as_role r c gave same is = subst (λ (x : Role). LeftAs x c gave) same (are.each c gave is)

    kind_at : (c : ℕ) (gave : Gave) → slice_get all c ≡ Some gave → kind_of gave.work ≡ kind (role_at c)
    kind_at c gave is = (leaves c gave is).kind_is

    kind_as : (r : Role) (c : ℕ) (gave : Gave) → role_at c ≡ r → slice_get all c ≡ Some gave → kind_of gave.work ≡ kind r
    kind_as r c gave same is = kind_at c gave is ∙ ap kind same

    many : length all ≡ 2 * max (listeners + node.workers) (links + 2)
    many = are.many ∙ sizes.callers

    -- ---- who left what where

    links_spaced : AreSpaced (λ (gave : Gave). link_in gave.work) 0 listeners all
    links_spaced = record {
      there = λ k low. omega (arith, low, many);
      one = λ k gave low is. one_link gave.work (kind_as (role.Listener k) (0 + 2 * k) gave (ap role_at (from_0 k) ∙ is_listener listeners node.workers links k low) is);
      none = λ i gave is apart. no_link gave.work (λ same.
          let at = listener_place listeners node.workers links i (sym (kind_at i gave is) ∙ same) in
          apart at.0 at.1 at.2);
    }
      where
        from_0 : (k : ℕ) → 0 + 2 * k ≡ 2 * k
        from_0 k = omega arith

    lists_spaced : AreSpaced (λ (gave : Gave). senders_in gave.work) 0 listeners all
    lists_spaced = record {
      there = λ k low. omega (arith, low, many);
      one = λ k gave low is. one_list gave.work (kind_as (role.Listener k) (0 + 2 * k) gave (ap role_at (from_0 k) ∙ is_listener listeners node.workers links k low) is);
      none = λ i gave is apart. no_list gave.work (λ same.
          let at = listener_place listeners node.workers links i (sym (kind_at i gave is) ∙ same) in
          apart at.0 at.1 at.2);
    }
      where
        from_0 : (k : ℕ) → 0 + 2 * k ≡ 2 * k
        from_0 k = omega arith

    receivers_spaced : AreSpaced (λ (gave : Gave). receiver_in gave.work) (2 * listeners) node.workers all
    receivers_spaced = record {
      there = λ w low. omega (arith, low, many);
      one = λ w gave low is. one_receiver gave.work (kind_as (role.Worker w) (2 * listeners + 2 * w) gave (worker_role listeners node.workers links w low) is);
      none = λ i gave is apart. no_receiver gave.work (λ same.
          let at = worker_place listeners node.workers links i (sym (kind_at i gave is) ∙ same) in
          apart at.0 at.1 at.2);
    }

    outs_spaced : AreSpaced (λ (gave : Gave). link_out_in gave.work) 3 links all
    outs_spaced = record {
      there = λ k low. omega (arith, low, many);
      one = λ k gave low is. one_out gave.work (kind_as (role.Connector k) (3 + 2 * k) gave (connector_role listeners node.workers links k low) is);
      none = λ i gave is apart. no_out gave.work (λ same.
          let at = connector_place listeners node.workers links i (sym (kind_at i gave is) ∙ same) in
          apart at.0 at.1 at.2);
    }

    pub many_links : length (all_of link_in all) ≡ listeners
    many_links = spaced_many (λ (gave : Gave). link_in gave.work) 0 listeners all links_spaced

    pub many_receivers : length (all_of receiver_in all) ≡ node.workers
    many_receivers = spaced_many (λ (gave : Gave). receiver_in gave.work) (2 * listeners) node.workers all receivers_spaced

    pub many_outs : length (all_of link_out_in all) ≡ links
    many_outs = spaced_many (λ (gave : Gave). link_out_in gave.work) 3 links all outs_spaced

    -- the links in the seat's order
    pub link_at : (k : ℕ) (gave : Gave) (link : N) → k < listeners → slice_get all (2 * k) ≡ Some gave → link_in gave.work ≡ link ∷ [] → slice_get (all_of link_in all) k ≡ Some link
    link_at k gave link low is has =
        spaced_at (λ (g : Gave). link_in g.work) 0 listeners all links_spaced k gave link low (ap (λ (i : ℕ). slice_get all i) from_0 ∙ is) has
      where
        from_0 : 0 + 2 * k ≡ 2 * k
        from_0 = omega arith

    pub out_at : (k : ℕ) (gave : Gave) (out : List ℕ × O) → k < links → slice_get all (3 + 2 * k) ≡ Some gave → link_out_in gave.work ≡ out ∷ []
        → slice_get (all_of link_out_in all) k ≡ Some out
    out_at k gave out low is has = spaced_at (λ (g : Gave). link_out_in g.work) 3 links all outs_spaced k gave out low is has

    -- the local connector's packets, and no others
    local_stays : (xs : List Gave) (before : List Item) → ((i : ℕ) (gave : Gave) → slice_get xs i ≡ Some gave → kind_of gave.work ≡ 2 → ⊥)
        → fold (λ (b : List Item) (g : Gave). local_after b g.work) before xs ≡ before
    local_stays [] before none = refl
    local_stays (gave ∷ xs) before none =
        local_stays xs (local_after before gave.work) (λ i g is. none (suc i) g is) ∙ same_local gave.work before (none 0 gave refl)

    pub local_at : (gave : Gave) → slice_get all 1 ≡ Some gave → local_in all ≡ local_after [] gave.work
    local_at gave is = two all refl
      where
        no_keeper : (c : ℕ) (g : Gave) → (c ≡ 1 → ⊥) → slice_get all c ≡ Some g → kind_of g.work ≡ 2 → ⊥
        no_keeper c g other there same = other (keeper_place listeners node.workers links c (sym (kind_at c g there) ∙ same))

        two : (xs : List Gave) → xs ≡ all → local_in xs ≡ local_after [] gave.work
        two [] whole = absurd (omega (arith, get_low all 1 gave is, ap (λ (ys : List Gave). length ys) whole))
        two (a ∷ []) whole = absurd (omega (arith, get_low all 1 gave is, ap (λ (ys : List Gave). length ys) whole))
        two (a ∷ g ∷ xs) whole =
            let first : local_after [] a.work ≡ [] = same_local a.work [] (no_keeper 0 a (λ same. omega (arith, same)) (ap (λ (ys : List Gave). slice_get ys 0) (sym whole))) in
            let second : g ≡ gave = some_same g gave (ap (λ (ys : List Gave). slice_get ys 1) whole ∙ is) in
            local_stays xs (local_after (local_after [] a.work) g.work)
            (λ i h there. no_keeper (suc (suc i)) h (λ same. omega (arith, same)) (ap (λ (ys : List Gave). slice_get ys (suc (suc i))) (sym whole) ∙ there))
            ∙ (ap (λ (b : List Item). local_after b g.work) first ∙ ap (λ (h : Gave). local_after [] h.work) second)

    -- ---- what closing asks

    module _ (hall : IsHall node.hall) where
      hand_of : (c : ℕ) (hand : List (Caller Told)) → slice_get (hands_of all) c ≡ Some hand
          → (gave : Gave) × (slice_get all c ≡ Some gave) × (gave.passes.items ≡ hand)
      hand_of c hand is =
          let low : c < length all = omega (arith, get_low (hands_of all) c hand is, length-map all (λ (g : Gave). g.passes.items)) in
          let gave = get_there all c low in
          (gave.0, gave.1, some_same gave.0.passes.items hand (sym (slice_get-map (λ (g : Gave). g.passes.items) all c ∙ ap (λ o. option_map (λ (g : Gave). g.passes.items) o) gave.1) ∙ is))

      seated_at : (c : ℕ) (hand : List (Caller Told)) → slice_get (hands_of all) c ≡ Some hand → LeavesSeat (seat c) hand
      seated_at c hand is =
          let gave = hand_of c hand is in
          subst (λ (h : List (Caller Told)). LeavesSeat (seat c) h) gave.2 (leaves c gave.0 gave.1).seated

      hands : AreHands node.hall.locks (hands_of all)
      hands = record {
        many = λ c hand is. (seated_at c hand is).many;
        callers = λ i lock is. (all_at (IsHallLock node.hall) node.hall.locks i lock hall.each is).many ∙ (sym are.many ∙ sym (length-map all (λ (g : Gave). g.passes.items)));
        idle = λ c i hand lock pass hand_is lock_is pass_is. (seated_at c hand hand_is).idle i lock pass lock_is pass_is;
      }

    -- ---- the queues' ends

    -- the receiver that a worker left
    record WorkerEnd (w : ℕ) (receiver : Receiving) : Type 0 where
      own : (queue : TableId) → slice_get node.hall.queues w ≡ Some queue → receiver.queue ≡ queue
      senders : receiver.senders ≡ listeners
      ended : marks receiver.popped ≡ receiver.senders

    worker_end : (w c : ℕ) (gave : Gave) → LeftAs (role.Worker w) c gave → (receiver : Receiving) → receiver_in gave.work ≡ receiver ∷ [] → WorkerEnd w receiver
    worker_end w c gave is receiver has = by_work gave.work is.2 has
      where
        by_work : (work : Work Item N O) → LeavesWorker suite is.0 gave.passes.items work → receiver_in work ≡ receiver ∷ [] → WorkerEnd w receiver
        by_work (Worked r log dropped) leaves has =
            let same : r ≡ receiver = cc in
            let worked = leaves.1 in
            subst (λ (x : Receiving). WorkerEnd w x) same (record {
              own = λ queue there. worked.own ∙ some_same is.0.queue queue (sym is.1.queue ∙ there);
              senders = worked.senders ∙ is.1.senders;
              ended = worked.ended;
            })
        by_work _ leaves has = absurd leaves

    receiver_end : (w : ℕ) (receiver : Receiving) → slice_get (all_of receiver_in all) w ≡ Some receiver → WorkerEnd w receiver
    receiver_end w receiver is =
        let low : w < node.workers = omega (arith, get_low (all_of receiver_in all) w receiver is, many_receivers) in
        let gave = get_there all (2 * listeners + 2 * w) (omega (arith, low, many)) in
        let one = receivers_spaced.one w gave.0 low gave.1 in
        let same : one.0 ≡ receiver = some_same one.0 receiver
        (sym (spaced_at (λ (g : Gave). receiver_in g.work) (2 * listeners) node.workers all receivers_spaced w gave.0 one.0 low gave.1 one.1) ∙ is) in
        worker_end w (2 * listeners + 2 * w) gave.0
        (as_role (role.Worker w) (2 * listeners + 2 * w) gave.0 (worker_role listeners node.workers links w low) gave.1) receiver (one.1 ∙ ap (λ (r : Receiving). r ∷ []) same)

    listener_end : (k c : ℕ) (gave : Gave) → LeftAs (role.Listener k) c gave → (list : Vec Sending) → senders_in gave.work ≡ list ∷ [] → AreSendersOf node.hall.queues k list.items
    listener_end k c gave is list has = by_work gave.work is.4 has
      where
        queues_are : is.2.post.queues ≡ node.hall.queues
        queues_are = ap (λ (p : listening.ListenerPost C). p.queues) is.3.post

        place_is : is.2.post.place ≡ k
        place_is = ap (λ (p : listening.ListenerPost C). p.place) is.3.post

        by_work : (work : Work Item N O) → LeavesListener suite may_give left in_faults is.2 gave.passes.items work → senders_in work ≡ list ∷ []
            → AreSendersOf node.hall.queues k list.items
        by_work (Listened link log dropped senders course ending) leaves has =
            let same : senders ≡ list = cc in
            let listened = leaves.1 in
            subst (λ (l : Vec Sending). AreSendersOf node.hall.queues k l.items) same (record {
              many = listened.many ∙ ap (λ (qs : List TableId). length qs) queues_are;
              own = λ w queue sender queue_at sender_at. listened.own w queue sender (ap (λ (qs : List TableId). slice_get qs w) queues_are ∙ queue_at) sender_at;
              from = λ w sender sender_at. (listened.senders_are w sender sender_at).from ∙ place_is;
            })
        by_work _ leaves has = absurd leaves

    list_end : (k : ℕ) (list : Vec Sending) → slice_get (all_of senders_in all) k ≡ Some list → AreSendersOf node.hall.queues k list.items
    list_end k list is =
        let low : k < listeners = omega (arith, get_low (all_of senders_in all) k list is, spaced_many (λ (g : Gave). senders_in g.work) 0 listeners all lists_spaced) in
        let gave = get_there all (0 + 2 * k) (omega (arith, low, many)) in
        let one = lists_spaced.one k gave.0 low gave.1 in
        let same : one.0 ≡ list = some_same one.0 list (sym (spaced_at (λ (g : Gave). senders_in g.work) 0 listeners all lists_spaced k gave.0 one.0 low gave.1 one.1) ∙ is) in
        listener_end k (0 + 2 * k) gave.0 (as_role (role.Listener k) (0 + 2 * k) gave.0 (ap role_at from_0 ∙ is_listener listeners node.workers links k low) gave.1)
        list (one.1 ∙ ap (λ (l : Vec Sending). l ∷ []) same)
      where
        from_0 : 0 + 2 * k ≡ 2 * k
        from_0 = omega arith

    settle : CanSettle node.hall.queues (all_of receiver_in all) (all_of senders_in all)
    settle = record {
      receivers_are = record {
        many = many_receivers ∙ sym sizes.queues;
        own = λ w queue receiver queue_at receiver_at. (receiver_end w receiver receiver_at).own queue queue_at;
      };
      ended = λ w receiver receiver_at. (receiver_end w receiver receiver_at).ended;
      senders_are = list_end;
    }

    pub can_end : IsHall node.hall → CanEnd node.hall all
    can_end hall = record { hands = hands hall; settle = settle }

    popped_is : (work : Work Item N O) (receiver : Receiving) → receiver_in work ≡ receiver ∷ []
        → lefts.popped_by suite left in_faults given out_faults may_give node work ≡ receiver.popped
    popped_is (Worked r log dropped) receiver has = ap (λ (x : Receiving). x.popped) (let same : r ≡ receiver = cc in same)
    popped_is _ receiver has = absurd cc

    pushed_is : (work : Work Item N O) (list : Vec Sending) (w : ℕ) (sender : Sending) → senders_in work ≡ list ∷ [] → slice_get list.items w ≡ Some sender
        → lefts.pushed_to suite left in_faults given out_faults may_give node w work ≡ sender.pushed
    pushed_is (Listened link log dropped senders course ending) list w sender has there =
        let same : senders ≡ list = cc in
        let here : slice_get senders.items w ≡ Some sender = ap (λ (l : Vec Sending). slice_get l.items w) same ∙ there in
        rw here refl
    pushed_is _ list w sender has there = absurd cc

    -- what every queue brought, by the callers' numbers
    pub are_settled : AreAllPopped (all_of receiver_in all) (all_of senders_in all) → lefts.AreSettled suite left in_faults given out_faults may_give node all
    are_settled popped = record {
      all = λ k w listener worker low_k low_w listener_at worker_at.
          let list = lists_spaced.one k listener low_k (ap (λ (i : ℕ). slice_get all i) (from_0 k) ∙ listener_at) in
          let list_at = spaced_at (λ (g : Gave). senders_in g.work) 0 listeners all lists_spaced k listener list.0 low_k (ap (λ (i : ℕ). slice_get all i) (from_0 k) ∙ listener_at) list.1 in
          let receiver = the_receiver w worker low_w worker_at in
          let sender = get_there list.0.items w (omega (arith, low_w, (list_end k list.0 list_at).many, sizes.queues)) in
          ap (λ items. items_of k items) (popped_is worker.work receiver.0 receiver.1)
          ∙ (popped.all k w list.0 sender.0 receiver.0 list_at sender.1 receiver.2 ∙ sym (pushed_is listener.work list.0 w sender.0 list.1 sender.1));
      from = λ w worker low_w worker_at.
          let receiver = the_receiver w worker low_w worker_at in
          let ends = receiver_end w receiver.0 receiver.2 in
          subst (λ (n : ℕ). All (λ x. x.from < n) (lefts.popped_by suite left in_faults given out_faults may_give node worker.work)) ends.senders
          (subst (λ items. All (λ x. x.from < receiver.0.senders) items) (sym (popped_is worker.work receiver.0 receiver.1)) (popped.from w receiver.0 receiver.2));
    }
      where
        from_0 : (k : ℕ) → 0 + 2 * k ≡ 2 * k
        from_0 k = omega arith

        the_receiver : (w : ℕ) (worker : Gave) → w < node.workers → slice_get all (2 * (listeners + w)) ≡ Some worker
            → (receiver : Receiving) × (receiver_in worker.work ≡ receiver ∷ []) × (slice_get (all_of receiver_in all) w ≡ Some receiver)
        the_receiver w worker low is =
            let same : 2 * listeners + 2 * w ≡ 2 * (listeners + w) = omega arith in
            let there = ap (λ (i : ℕ). slice_get all i) same ∙ is in
            let one = receivers_spaced.one w worker low there in
            (one.0, one.1, spaced_at (λ (g : Gave). receiver_in g.work) (2 * listeners) node.workers all receivers_spaced w worker one.0 low there one.1)
