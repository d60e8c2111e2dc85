-- The seats and posts of a node that was opened: what each actor asks at first.
use Rattle.std.proofs.Common.{◌≡◌, ◌<◌, ◌+◌, ◌-◌, ◌/◌, ◌%◌, ◌==◌, ℕ, Bool, true, false, if◌then◌else◌, nat_lt, List, [], length, map, refl, sym, ap, subst, ◌∙◌, arith, Option, Some}
use Rattle.std.specs.Prelude.{Vec, slice_get}
use Rattle.std.specs.Option.{option_map}
use Rattle.std.specs.declared.alloc.Global.{Global}
use Rattle.std.proofs.lemmas.Bool.Decides.{nat_tests}
use Rattle.std.proofs.lemmas.List.{append-nil, length-map, length-replicate}
use Rattle.std.proofs.lemmas.Option.{slice_get-map}
use Rattle.atomic_table.specs.Seated.{TableId}
use Rattle.mix_shard.specs.declared.entries.Told.{Told}
use Rattle.mix_shard.specs.declared.setup.Setup.{Setup}
use Rattle.turn_lock.specs.Seen.{Caller, IsIdle, Lock, new_pass}
use Rattle.turn_lock.specs.Stories.{Begins}
use Rattle.node_actors.specs.Calls.{has_ended}
use Rattle.node_actors.specs.Listening.{AreOpenTo, AreSenders}
use Rattle.node_actors.specs.Packets.{arrived_packets}
use Rattle.node_actors.specs.Queues.{Receiving, Sending, marks}
use Rattle.node_actors.specs.Seats.{HasMadeNothing, IsOpen, IsSeated}
use Rattle.node_actors.proofs.Seating.{get_low, get_there, some_same}
use Rattle.node_run.specs.Halls.{HallState, IsHall, IsHallLock, fresh_passes, fresh_seat}
use Rattle.node_run.specs.Posts.{AreNewSenders, IsListener, IsPost, IsWorker, Plan, role_in}
use Rattle.node_run.specs.declared.life.posts.Post.TheVariants as post
use Rattle.node_run.specs.declared.roles.Role.{Role}
use Rattle.node_run.specs.declared.roles.Role.TheVariants.{Listener, Worker, Keeper, Connector, Rotator, Spare}
use Rattle.node_run.proofs.Filling.{at_place}

-- ---- a seat at first

module _ (hall : HallState) (caller : ℕ) where
  -- a pass is to the lock in its place
  fresh_at : (i : ℕ) (lock : Lock Told) (pass : Caller Told) → slice_get hall.locks i ≡ Some lock → slice_get (fresh_passes hall.locks caller) i ≡ Some pass → new_pass lock caller ≡ pass
  fresh_at i lock pass lock_at pass_at = some_same (new_pass lock caller) pass
      (sym (slice_get-map (λ (l : Lock Told). new_pass l caller) hall.locks i ∙ ap (λ (o : Option (Lock Told)). option_map (λ l. new_pass l caller) o) lock_at) ∙ pass_at)

  many_fresh : length (fresh_passes hall.locks caller) ≡ length hall.locks
  many_fresh = length-map hall.locks (λ (l : Lock Told). new_pass l caller)

  lock_of : (i : ℕ) (pass : Caller Told) → slice_get (fresh_passes hall.locks caller) i ≡ Some pass → (lock : Lock Told) × (slice_get hall.locks i ≡ Some lock)
  lock_of i pass at = get_there hall.locks i (let a = get_low (fresh_passes hall.locks caller) i pass at in let b = many_fresh in omega arith)

  pub fresh_seated : IsHall hall → caller < hall.callers → IsSeated (fresh_seat hall caller)
  fresh_seated is low = record {
    many = many_fresh;
    idle = λ i lock pass lock_at pass_at. subst (λ (p : Caller Told). IsIdle lock caller p) (fresh_at i lock pass lock_at pass_at) ((refl, refl), refl, refl);
    saw = λ i lock pass lock_at pass_at. subst (λ (p : Caller Told). Begins lock.story p.seen) (fresh_at i lock pass lock_at pass_at) ([], append-nil lock.story);
    over = λ i lock lock_at.
        let one = at_place (IsHallLock hall) hall.locks is.each i lock lock_at in
        record { setup_is = one.setup_is; caller_is = subst (λ (n : ℕ). caller < n) (sym one.callers_are) low; nothing_held = one.nothing_held };
  }

  pub fresh_open : IsHall hall → caller < hall.callers → IsOpen (fresh_seat hall caller)
  fresh_open is low = λ i pass pass_at.
      let lock = lock_of i pass pass_at in
      let one = at_place (IsHallLock hall) hall.locks is.each i lock.0 lock.1 in
      ap (λ (p : Caller Told). has_ended caller p.seen) (sym (fresh_at i lock.0 pass lock.1 pass_at)) ∙ one.nobody_ended caller low

  pub fresh_nothing : HasMadeNothing (fresh_seat hall caller)
  fresh_nothing = λ i pass pass_at.
      let lock = lock_of i pass pass_at in
      ap (λ (p : Caller Told). p.made) (sym (fresh_at i lock.0 pass lock.1 pass_at))

-- a seat that has what the hall has
pub seat_of_parts : (hall : HallState) (caller : ℕ) (locks : List (Lock Told)) (setup : Setup) (passes : List (Caller Told)) → locks ≡ hall.locks → setup ≡ hall.setup
    → passes ≡ fresh_passes hall.locks caller → record { locks = locks; setup = setup; caller = caller; passes = passes } ≡ fresh_seat hall caller
seat_of_parts hall caller locks setup passes locks_are setup_is passes_are = λ i. record { locks = locks_are i; setup = setup_is i; caller = caller; passes = passes_are i }

-- ---- senders at first

pub open_at_first : (place : ℕ) (queues : List TableId) (senders : List Sending) → AreNewSenders place queues senders → AreOpenTo queues senders
open_at_first place queues senders are =
    let queue_of : (i : ℕ) (sender : Sending) → slice_get senders i ≡ Some sender → (queue : TableId) × (slice_get queues i ≡ Some queue) =
    λ i sender at. get_there queues i (let a = get_low senders i sender at in let b = are.many in omega arith) in
    record {
      many = are.many;
      own = λ i queue sender queue_at sender_at. ap (λ (s : Sending). s.queue) (are.each i queue sender queue_at sender_at);
      open_to = λ i sender sender_at.
          let queue = queue_of i sender sender_at in
          ap (λ (s : Sending). marks s.pushed) (are.each i queue.0 sender queue.1 sender_at);
    }

pub senders_at_first : (place : ℕ) (queues : List TableId) (senders : List Sending) → AreNewSenders place queues senders → AreSenders place [] senders
senders_at_first place queues senders are = λ i sender sender_at.
    let queue = get_there queues i (let a = get_low senders i sender sender_at in let b = are.many in omega arith) in
    let is = are.each i queue.0 sender queue.1 sender_at in
    record { from = ap (λ (s : Sending). s.from) is; packets = ap (λ (s : Sending). arrived_packets s.pushed) is }

-- ---- the role that a post is of

module _ {N O : Type 0} (plan : Plan N O) where
  pub of_listener : (role : Role) (at many : ℕ) (link : N) (senders : Vec Sending Global) (buffer : Vec ℕ Global) → IsPost plan role (post.Listener at many link senders buffer)
      → (role ≡ Listener at) × IsListener {N = N} {O = O} plan.queues plan.size plan.incoming at (post.Listener at many link senders buffer)
  of_listener (Listener place) at many link senders buffer is =
      (ap (λ (n : ℕ). Listener n) (sym is.0), subst (λ (n : ℕ). IsListener {N = N} {O = O} plan.queues plan.size plan.incoming n (post.Listener at many link senders buffer)) (sym is.0) is)
  of_listener (Worker place) at many link senders buffer is = absurd is
  of_listener Keeper at many link senders buffer is = absurd is
  of_listener (Connector place) at many link senders buffer is = absurd is
  of_listener Rotator at many link senders buffer is = absurd is
  of_listener Spare at many link senders buffer is = absurd is

  pub of_worker : (role : Role) (at : ℕ) (receiver : Receiving) → IsPost plan role (post.Worker at receiver)
      → (role ≡ Worker at) × IsWorker {N = N} {O = O} plan.queues (length plan.incoming) at (post.Worker at receiver)
  of_worker (Listener place) at receiver is = absurd is
  of_worker (Worker place) at receiver is =
      (ap (λ (n : ℕ). Worker n) (sym is.0), subst (λ (n : ℕ). IsWorker {N = N} {O = O} plan.queues (length plan.incoming) n (post.Worker at receiver)) (sym is.0) is)
  of_worker Keeper at receiver is = absurd is
  of_worker (Connector place) at receiver is = absurd is
  of_worker Rotator at receiver is = absurd is
  of_worker Spare at receiver is = absurd is

  pub of_keeper : (role : Role) (hops : Vec (List ℕ) Global) → IsPost plan role (post.Keeper hops) → (role ≡ Keeper) × (hops.items ≡ map (λ link. link.0) plan.outgoing)
  of_keeper (Listener place) hops is = absurd is
  of_keeper (Worker place) hops is = absurd is
  of_keeper Keeper hops is = (refl, is)
  of_keeper (Connector place) hops is = absurd is
  of_keeper Rotator hops is = absurd is
  of_keeper Spare hops is = absurd is

  pub of_connector : (role : Role) (hop : List ℕ) (link : O) → IsPost plan role (post.Connector hop link)
      → (place : ℕ) × (role ≡ Connector place) × (slice_get plan.outgoing place ≡ Some (hop, link))
  of_connector (Listener place) hop link is = absurd is
  of_connector (Worker place) hop link is = absurd is
  of_connector Keeper hop link is = absurd is
  of_connector (Connector place) hop link is = (place, refl, is)
  of_connector Rotator hop link is = absurd is
  of_connector Spare hop link is = absurd is

  pub of_rotator : (role : Role) (tried : Vec ℕ Global) → IsPost plan role (post.Rotator tried) → (role ≡ Rotator) × (length tried.items ≡ plan.shards)
  of_rotator (Listener place) tried is = absurd is
  of_rotator (Worker place) tried is = absurd is
  of_rotator Keeper tried is = absurd is
  of_rotator (Connector place) tried is = absurd is
  of_rotator Rotator tried is = (refl, ap (λ (xs : List ℕ). length xs) is ∙ length-replicate plan.shards 0)
  of_rotator Spare tried is = absurd is

  pub of_spare : (role : Role) → IsPost plan role post.Spare → role ≡ Spare
  of_spare (Listener place) is = absurd is
  of_spare (Worker place) is = absurd is
  of_spare Keeper is = absurd is
  of_spare (Connector place) is = absurd is
  of_spare Rotator is = absurd is
  of_spare Spare is = refl

  -- who deals with packets has an even number
  abbrev IsDealer : Role → Bool
  IsDealer (Listener place) = true
  IsDealer (Worker place) = true
  IsDealer _ = false

  pub dealers_even : (caller : ℕ) → IsDealer (role_in plan caller) ≡ true → caller % 2 ≡ 0
  dealers_even caller deals = by_test (caller % 2 == 0) refl deals
    where
      odd_ones : (place : ℕ)
          → IsDealer (if place == 0 then Keeper else if nat_lt place (length plan.outgoing + 1) then Connector (place - 1) else if place == length plan.outgoing + 1 then Rotator else Spare) ≡ false
      odd_ones place = by (place == 0) (nat_lt place (length plan.outgoing + 1)) (place == length plan.outgoing + 1)
        where
          by : (a b d : Bool) → IsDealer (if a then Keeper else if b then Connector (place - 1) else if d then Rotator else Spare) ≡ false
          by true b d = refl
          by false true d = refl
          by false false true = refl
          by false false false = refl

      by_test : (b : Bool) → (caller % 2 == 0) ≡ b
          → IsDealer (if b then (if nat_lt (caller / 2) (length plan.incoming) then Listener (caller / 2) else if nat_lt (caller / 2) (length plan.incoming + length plan.queues) then Worker (caller / 2 - length plan.incoming) else Spare)
          else (if caller / 2 == 0 then Keeper else if nat_lt (caller / 2) (length plan.outgoing + 1) then Connector (caller / 2 - 1) else if caller / 2 == length plan.outgoing + 1 then Rotator else Spare)) ≡ true
          → caller % 2 ≡ 0
      by_test true is role = grind (arith, nat_tests)
      by_test false is role = absurd (differ (sym role ∙ odd_ones (caller / 2)))
        where
          differ : true ≡ false → ⊥
          differ same = cc
