-- What each caller of a node left, in one form for all roles.
use Rattle.std.proofs.Common.{◌≡◌, ◌++◌, ℕ, zero, suc, ◌-◌, ◌^◌, ◌<◌, false, List, [], ◌∷◌, length, refl, sym, ap, subst, ◌∙◌, arith, min, Option, Some}
use Rattle.std.specs.Prelude.{All, slice_get}
use Rattle.std.specs.List.{AllZip}
use Rattle.std.proofs.lemmas.List.{length-map}
use Rattle.std.proofs.lemmas.List.Elements.{All-head, All-nil, All-tail, All-weaker}
use Rattle.mix_base.specs.Suites.{SuiteMeaning}
use Rattle.mix_shard.specs.Items.{Item, IsHeld}
use Rattle.mix_shard.specs.declared.entries.Entry.{Entry}
use Rattle.mix_shard.specs.declared.entries.Entry.TheVariants.{Claim, Take, Rotate, Done, Reopened}
use Rattle.mix_shard.specs.declared.entries.Told.{Told}
use Rattle.turn_lock.specs.Seen.{Caller, Lock, new_pass}
use Rattle.turn_lock.specs.Stories.{Begins, after}
use Rattle.node_actors.specs.Calls.{claims, is_take, takes}
use Rattle.node_actors.specs.Fates.{HasCause, IsClaimOf, dropped_in, items_at}
use Rattle.node_actors.specs.Leaving.{seat_with}
use Rattle.node_actors.specs.Listening as listening
use Rattle.node_actors.specs.Listening.{InTurn, handed, kept}
use Rattle.node_actors.specs.Logging.{LeavesConnector, LeavesDealer, LeavesKeeper, LeavesListener, LeavesRotator, LeavesSpare, LeavesTaker, LeavesWorker}
use Rattle.node_actors.specs.Packets.{arrived_packets, dealt_packets}
use Rattle.node_actors.specs.Seats.{ClaimsNothing, IsMomentOf, MovesAt, MovesNothing, SeatState}
use Rattle.node_actors.specs.Takings.{IsFromShard, IsTakeOf, WasAccepted, taken_at, unsent_in}
use Rattle.node_actors.specs.Working.{WorkerState}
use Rattle.node_actors.specs.declared.actors.listening.Taken as listening_taken
use Rattle.node_actors.specs.declared.actors.takings.Taking.{Taking}
use Rattle.node_actors.specs.declared.actors.works.Left.{Left}
use Rattle.node_actors.specs.declared.actors.works.Work.{Work}
use Rattle.node_actors.specs.declared.actors.works.Work.TheVariants.{Listened, Worked, Connected, Kept, Rotated, Ended}
use Rattle.node_run.specs.Accounts.{course_of, dropped_of, fates_of, takings_of, unsent_of}
use Rattle.node_run.specs.Arrivals.{HasReadLink, post_at}
use Rattle.node_run.specs.Halls.{fresh_passes, fresh_seat}
use Rattle.node_run.specs.Lefts.{IsNewListener, IsNewWorker, LeftAs, Staffing, new_connector, new_keeper, new_rotator, popped_by, pushed_to}
use Rattle.node_run.specs.declared.roles.Role.{Role}
use Rattle.node_run.specs.declared.roles.Role.TheVariants.{Listener, Worker, Keeper, Connector, Rotator, Spare}
use Rattle.node_run.proofs.Elements as listed
use Rattle.node_run.proofs.Elements.{get_there}

-- ---- entries that are no takings

no_take : (entry : Entry) → IsMomentOf (λ moment. ⊥) entry → is_take entry ≡ false
no_take (Claim caller number epoch tag at answer) none = refl
no_take (Take caller number dest moment) none = absurd none
no_take (Rotate caller moment answer) none = refl
no_take (Done caller) none = refl
no_take (Reopened caller floor pairs) none = refl

no_takes : (tale : List Told) → All (λ told. IsMomentOf (λ moment. ⊥) told.entry) tale → takes tale ≡ []
no_takes [] none = refl
no_takes (told ∷ others) none =
    let P : Told → Type 0 = λ t. IsMomentOf (λ moment. ⊥) t.entry in
    rw (no_take told.entry (All-head P told others none)) (no_takes others (All-tail P told others none))

any_moment : (may : ℕ → Type 0) (entry : Entry) → IsMomentOf (λ moment. ⊥) entry → IsMomentOf may entry
any_moment may (Claim caller number epoch tag at answer) none = tt
any_moment may (Take caller number dest moment) none = absurd none
any_moment may (Rotate caller moment answer) none = absurd none
any_moment may (Done caller) none = tt
any_moment may (Reopened caller floor pairs) none = tt

any_moves : (may : ℕ → Type 0) (passes : List (Caller Told)) → MovesNothing passes → MovesAt may passes
any_moves may passes none i pass is =
    All-weaker (λ (told : Told). IsMomentOf (λ moment. ⊥) told.entry) (λ (told : Told). IsMomentOf may told.entry) (λ told no. any_moment may told.entry no) pass.made (none i pass is)

-- ---- passes as they were at first

new_made : (locks : List (Lock Told)) (caller i : ℕ) (pass : Caller Told) → slice_get (fresh_passes locks caller) i ≡ Some pass → pass.made ≡ []
new_made [] caller i pass is = absurd (cc)
new_made (lock ∷ locks) caller zero pass is = let same : new_pass lock caller ≡ pass = cc in ap (λ (p : Caller Told). p.made) (sym same)
new_made (lock ∷ locks) caller (suc i) pass is = new_made locks caller i pass is

module _ {N O C : Type 0} (suite : SuiteMeaning) (left : N → Option (List ℕ)) (in_faults : N → ℕ) (given : O → Option (List (List ℕ))) (out_faults : O → ℕ)
    (may_give : C → ℕ → Type 0) (node : Staffing N O C) where
  abbrev seat : ℕ → SeatState
  seat caller = fresh_seat node.hall caller

  -- ---- the claims of a caller are those of its fate log

  pub record Deals (caller : ℕ) (passes : List (Caller Told)) (work : Work Item N O) : Type 0 where
    pub claims_are : (i : ℕ) (pass : Caller Told) → slice_get passes i ≡ Some pass
        → AllZip (IsClaimOf caller) (items_at (length node.hall.locks) i (fates_of work)) (claims pass.made)
    pub causes : All (λ dealt. HasCause suite node.hall.setup dealt.number dealt.receipt dealt.packet.value.items dealt.fate) (fates_of work)
    pub dropped : dropped_of work ≡ min (dropped_in (fates_of work)) (2 ^ 64 - 1)

  -- ---- its takings are those of its take log

  pub record Origin (passes : List (Caller Told)) (taking : Taking Item) : Type 0 where
    pub lock : Lock Told
    pub pass : Caller Told
    pub lock_is : slice_get node.hall.locks taking.shard ≡ Some lock
    pub pass_is : slice_get passes taking.shard ≡ Some pass
    pub accepted : WasAccepted (after lock.story pass.seen) taking.item.value

  pub record Takes (caller : ℕ) (passes : List (Caller Told)) (work : Work Item N O) : Type 0 where
    pub takes_are : (i : ℕ) (pass : Caller Told) → slice_get passes i ≡ Some pass → AllZip (IsTakeOf caller) (taken_at i (takings_of work)) (takes pass.made)
    pub origins : All (Origin passes) (takings_of work)
    pub setups : All (λ taking. taking.item.value.setup ≡ node.hall.setup) (takings_of work)
    pub items : All (λ taking. IsHeld suite taking.item.value) (takings_of work)
    pub unsent : unsent_of work ≡ min (unsent_in (takings_of work)) (2 ^ 64 - 1)

  -- ---- the whole account of a caller

  pub record Account (caller : ℕ) (passes : List (Caller Told)) (work : Work Item N O) : Type 0 where
    pub many : length passes ≡ length node.hall.locks
    pub saw : (i : ℕ) (lock : Lock Told) (pass : Caller Told) → slice_get node.hall.locks i ≡ Some lock → slice_get passes i ≡ Some pass → Begins lock.story pass.seen
    pub moves : MovesAt (may_give node.clock) passes
    pub deals : Deals caller passes work
    pub takes : Takes caller passes work

  -- what deals with nothing, and what takes nothing
  deals_none : (caller : ℕ) (passes : List (Caller Told)) (work : Work Item N O) → ClaimsNothing (seat caller) (seat_with (seat caller) passes)
      → fates_of work ≡ [] → dropped_of work ≡ 0 → Deals caller passes work
  deals_none caller passes work nothing none no_drop = record {
    claims_are = λ i pass is.
        let low = listed.get_low passes i pass is in
        let many : length (fresh_passes node.hall.locks caller) ≡ length node.hall.locks = length-map node.hall.locks (λ (lock : Lock Told). new_pass lock caller) in
        let old = get_there (fresh_passes node.hall.locks caller) i (omega (arith, low, nothing.many)) in
        let same : claims pass.made ≡ [] = nothing.claims_are i old.0 pass old.1 is ∙ ap (λ (tale : List Told). claims tale) (new_made node.hall.locks caller i old.0 old.1) in
        rw (none, same) tt;
    causes = rw none (All-nil (λ dealt. HasCause suite node.hall.setup dealt.number dealt.receipt dealt.packet.value.items dealt.fate));
    dropped = rw (none, no_drop) refl;
  }

  takes_none : (caller : ℕ) (passes : List (Caller Told)) (work : Work Item N O) → ((i : ℕ) (pass : Caller Told) → slice_get passes i ≡ Some pass → takes pass.made ≡ [])
      → takings_of work ≡ [] → unsent_of work ≡ 0 → Takes caller passes work
  takes_none caller passes work nothing none no_unsent = record {
    takes_are = λ i pass is. let same = nothing i pass is in rw (none, same) tt;
    origins = rw none (All-nil (Origin passes));
    setups = rw none (All-nil (λ (taking : Taking Item). taking.item.value.setup ≡ node.hall.setup));
    items = rw none (All-nil (λ (taking : Taking Item). IsHeld suite taking.item.value));
    unsent = rw (none, no_unsent) refl;
  }

  moved_none : (passes : List (Caller Told)) → MovesNothing passes → (i : ℕ) (pass : Caller Told) → slice_get passes i ≡ Some pass → takes pass.made ≡ []
  moved_none passes none i pass is = no_takes pass.made (none i pass is)

  -- ---- by the kind of what was left

  dealer_account : (caller : ℕ) (passes : List (Caller Told)) (work : Work Item N O) → LeavesDealer suite (seat caller) passes (fates_of work) (dropped_of work)
      → takings_of work ≡ [] → unsent_of work ≡ 0 → Account caller passes work
  dealer_account caller passes work leaves none no_unsent = record {
    many = leaves.seated.many;
    saw = leaves.seated.saw;
    moves = any_moves (may_give node.clock) passes leaves.moves;
    deals = record { claims_are = leaves.dealt.claims_are; causes = leaves.dealt.causes; dropped = leaves.dealt.count };
    takes = takes_none caller passes work (moved_none passes leaves.moves) none no_unsent;
  }

  taker_account : (caller : ℕ) (passes : List (Caller Told)) (work : Work Item N O) → LeavesTaker suite (may_give node.clock) (seat caller) passes (takings_of work) (unsent_of work)
      → fates_of work ≡ [] → dropped_of work ≡ 0 → Account caller passes work
  taker_account caller passes work leaves none no_drop = record {
    many = leaves.claims.seated.many;
    saw = leaves.claims.seated.saw;
    moves = leaves.moves;
    deals = deals_none caller passes work leaves.claims.nothing none no_drop;
    takes = record {
      takes_are = leaves.taken.takes_are;
      origins = All-weaker (IsFromShard (seat_with (seat caller) passes)) (Origin passes) (λ taking from. record { lock = from.lock; pass = from.pass; lock_is = from.lock_is; pass_is = from.pass_is; accepted = from.accepted }) (takings_of work) leaves.taken.origins;
      setups = leaves.taken.setups;
      items = leaves.taken.items;
      unsent = leaves.taken.count;
    };
  }

  listener_account : (place caller : ℕ) (link : N) (listener : listening.ListenerState C) (passes : List (Caller Told)) (work : Work Item N O)
      → IsNewListener suite left in_faults given out_faults may_give node place caller link listener → LeavesListener suite may_give left in_faults listener passes work
      → Account caller passes work
  listener_account place caller link listener passes (Listened now log dropped senders course ending) is leaves =
      dealer_account caller passes (Listened now log dropped senders course ending)
      (subst (λ (s : SeatState). LeavesDealer suite s passes log.items dropped) (ap (λ d. d.seat) is.dealer) leaves.0) refl refl
  listener_account place caller link listener passes _ is leaves = absurd leaves

  worker_account : (place caller : ℕ) (worker : WorkerState) (passes : List (Caller Told)) (work : Work Item N O)
      → IsNewWorker suite left in_faults given out_faults may_give node place caller worker → LeavesWorker suite worker passes work → Account caller passes work
  worker_account place caller worker passes (Worked receiver log dropped) is leaves =
      dealer_account caller passes (Worked receiver log dropped)
      (subst (λ (s : SeatState). LeavesDealer suite s passes log.items dropped) (ap (λ d. d.seat) is.dealer) leaves.0) refl refl
  worker_account place caller worker passes _ is leaves = absurd leaves

  keeper_account : (caller : ℕ) (passes : List (Caller Told)) (work : Work Item N O)
      → LeavesKeeper suite may_give (new_keeper suite left in_faults given out_faults may_give node caller) passes work → Account caller passes work
  keeper_account caller passes (Kept local log unsent) leaves = taker_account caller passes (Kept local log unsent) leaves.0 refl refl
  keeper_account caller passes _ leaves = absurd leaves

  connector_account : (caller : ℕ) (out : List ℕ × O) (passes : List (Caller Told)) (work : Work Item N O)
      → LeavesConnector suite may_give given out_faults (new_connector suite left in_faults given out_faults may_give node caller out) passes work → Account caller passes work
  connector_account caller out passes (Connected hop link log unsent) leaves = taker_account caller passes (Connected hop link log unsent) leaves.1 refl refl
  connector_account caller out passes _ leaves = absurd leaves

  rotator_account : (caller : ℕ) (passes : List (Caller Told)) (work : Work Item N O)
      → LeavesRotator may_give (new_rotator suite left in_faults given out_faults may_give node caller) passes work → Account caller passes work
  rotator_account caller passes Rotated leaves = record {
    many = leaves.0.seated.many;
    saw = leaves.0.seated.saw;
    moves = leaves.2;
    deals = deals_none caller passes Rotated leaves.0.nothing refl refl;
    takes = takes_none caller passes Rotated leaves.1 refl refl;
  }
  rotator_account caller passes _ leaves = absurd leaves

  spare_account : (caller : ℕ) (passes : List (Caller Told)) (work : Work Item N O) → LeavesSpare (seat caller) passes work → Account caller passes work
  spare_account caller passes Ended leaves = record {
    many = leaves.0.seated.many;
    saw = leaves.0.seated.saw;
    moves = any_moves (may_give node.clock) passes leaves.1;
    deals = deals_none caller passes Ended leaves.0.nothing refl refl;
    takes = takes_none caller passes Ended (moved_none passes leaves.1) refl refl;
  }
  spare_account caller passes _ leaves = absurd leaves

  pub account : (role : Role) (caller : ℕ) (gave : Left (Caller Told) Item N O) → LeftAs suite left in_faults given out_faults may_give node role caller gave
      → Account caller gave.passes.items gave.work
  account (Listener place) caller gave leaves = listener_account place caller leaves.0 leaves.2 gave.passes.items gave.work leaves.3 leaves.4
  account (Worker place) caller gave leaves = worker_account place caller leaves.0 gave.passes.items gave.work leaves.1 leaves.2
  account Keeper caller gave leaves = keeper_account caller gave.passes.items gave.work leaves
  account (Connector place) caller gave leaves = connector_account caller leaves.0 gave.passes.items gave.work leaves.2
  account Rotator caller gave leaves = rotator_account caller gave.passes.items gave.work leaves
  account Spare caller gave leaves = spare_account caller gave.passes.items gave.work leaves

  -- ---- what a listener took, and what a worker popped

  pub record Listens (place : ℕ) (work : Work Item N O) : Type 0 where
    pub log_is : dealt_packets (fates_of work) ≡ kept (course_of work)
    pub pushed_is : (w : ℕ) → w < length node.hall.queues → arrived_packets (pushed_to suite left in_faults given out_faults may_give node w work) ≡ handed w (course_of work)
    pub turns : InTurn (length node.incoming) place (length node.hall.queues) (course_of work)
    pub receipts : All (λ taken. may_give node.clock taken.receipt) (course_of work)

  pub listens : (place caller : ℕ) (link : N) (listener : listening.ListenerState C) (passes : List (Caller Told)) (work : Work Item N O)
      → IsNewListener suite left in_faults given out_faults may_give node place caller link listener → LeavesListener suite may_give left in_faults listener passes work
      → Listens place work
  listens place caller link listener passes (Listened now log dropped senders course ending) is leaves =
      let Turns : listening.ListenerPost C → Type 0 = λ post. InTurn post.listeners post.place (length post.queues) course.items in
      let Many : listening.ListenerPost C → Type 0 = λ post. length senders.items ≡ length post.queues in
      let Senders : listening.ListenerPost C → Type 0 = λ post. listening.AreSenders post.place course.items senders.items in
      let many : length senders.items ≡ length node.hall.queues = subst Many is.post leaves.1.many in
      record {
        log_is = leaves.1.log_is;
        pushed_is = λ w low.
            let sender = get_there senders.items w (omega (arith, low, many)) in
            let is_sender = leaves.1.senders_are w sender.0 sender.1 in
            rw sender.1 is_sender.packets;
        turns = subst Turns is.post leaves.1.turns;
        receipts = subst (λ (post : listening.ListenerPost C). All (λ (taken : listening_taken.Taken). may_give post.clock taken.receipt) course.items) is.post leaves.1.receipts;
      }
  listens place caller link listener passes _ is leaves = absurd leaves

  pub works : (worker : WorkerState) (passes : List (Caller Told)) (work : Work Item N O) → LeavesWorker suite worker passes work
      → dealt_packets (fates_of work) ≡ arrived_packets (popped_by suite left in_faults given out_faults may_give node work)
  works worker passes (Worked receiver log dropped) leaves = leaves.1.log_is
  works worker passes _ leaves = absurd leaves

  pub reads : (place caller : ℕ) (link : N) (listener : listening.ListenerState C) (passes : List (Caller Told)) (work : Work Item N O) → length node.hall.queues ≡ node.workers
      → IsNewListener suite left in_faults given out_faults may_give node place caller link listener → LeavesListener suite may_give left in_faults listener passes work
      → HasReadLink suite left in_faults node place link work
  reads place caller link listener passes (Listened now log dropped senders course ending) workers is leaves =
      let Post : Type 0 = listening.ListenerPost C in
      let was : listening.LinkState = record { left = left link; faults = in_faults link } in
      let end : listening.LinkState = record { left = left now; faults = in_faults now } in
      let took : leaves.1.took ≡ course.items = sym (leaves.1.course_is ∙ ap (λ (xs : List listening_taken.Taken). xs ++ leaves.1.took) is.course) in
      record {
        turns = subst (λ (n : ℕ). InTurn (length node.incoming) place n course.items) workers
            (subst (λ (post : Post). InTurn post.listeners post.place (length post.queues) course.items) is.post leaves.1.turns);
        sizes = subst (λ (post : Post). All (λ (taken : listening_taken.Taken). length taken.packet.value.items ≡ post.size) course.items) is.post leaves.1.sizes;
        goes_on = subst (λ (xs : List listening_taken.Taken). listening.GoesOn was end xs) took
            (subst (λ (old : listening.LinkState). listening.GoesOn old end leaves.1.took) is.link_is leaves.1.goes_on);
        ends_by = subst (λ (old : listening.LinkState). listening.EndsBy (post_at suite left in_faults node place) (length course.items) old end ending) is.link_is
            (subst (λ (post : Post). listening.EndsBy post (length course.items) listener.link end ending) is.post leaves.1.ends_by);
      }
  reads place caller link listener passes _ workers is leaves = absurd leaves
