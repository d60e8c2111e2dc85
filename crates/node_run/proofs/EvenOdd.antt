-- The posts of the callers of even and of odd numbers, and from them those of all.
use Rattle.std.proofs.Common.{◌≡◌, ◌≢◌, ◌<◌, ◌≤◌, ◌+◌, ◌-◌, ◌*◌, ◌/◌, ◌%◌, ◌==◌, ℕ, zero, suc, Bool, true, false, if◌then◌else◌, nat_lt, List, [], ◌∷◌, ◌++◌, length, refl, sym, ap, subst, ◌∙◌, arith, Some, eq-eqb}
use Rattle.std.specs.Prelude.{slice_get}
use Rattle.std.proofs.lemmas.Bool.Decides.{nat_tests}
use Rattle.atomic_table.specs.Seated.{TableId}
use Rattle.node_actors.specs.Queues.{Receiving}
use Rattle.node_actors.proofs.Seating.{get_low, get_there}
use Rattle.node_run.specs.Posts.{AddsEach, AreEach, AreEven, AreOdd, ArePosts, AreReceivers, HasReceiver, IsConnector, IsKeeper, IsListener, IsPost, IsRotator, IsSpare, IsWorker, IsWoven, Plan}
use Rattle.node_run.specs.declared.life.posts.Post.{Post}
use Rattle.node_run.specs.declared.life.posts.Post.TheVariants as post
use Rattle.node_run.specs.declared.roles.Role.TheVariants.{Listener, Worker, Keeper, Connector, Rotator, Spare}
use Rattle.node_run.proofs.Posting.{added_length, among_added, before_added}

module _ {N O : Type 0} where
  has_worker : (queues : List TableId) (receivers : List Receiving) (made place : ℕ) (one : Post N O) → AreReceivers made queues receivers → HasReceiver receivers place one
      → IsWorker queues made place one
  has_worker queues receivers made place (post.Worker at receiver) are has =
      let queue = get_there queues place (let a = get_low receivers place receiver has.1 in let b = are.many in omega arith) in
      (has.0, (queue.0, queue.1, are.each place queue.0 receiver queue.1 has.1))
  has_worker queues receivers made place (post.Listener at many link senders buffer) are has = absurd has
  has_worker queues receivers made place (post.Keeper hops) are has = absurd has
  has_worker queues receivers made place (post.Connector hop link) are has = absurd has
  has_worker queues receivers made place (post.Rotator tried) are has = absurd has
  has_worker queues receivers made place post.Spare are has = absurd has

  pub even_parts : (queues : List TableId) (size : ℕ) (links : List N) (receivers : List Receiving) (first second third : List (Post N O)) (more : ℕ) → length first ≡ length links
      → AreEach (IsListener queues size links) first → AreReceivers (length links) queues receivers → AddsEach (HasReceiver receivers) (length receivers) first second
      → AddsEach (λ _ one. IsSpare one) more second third → AreEven queues size links third
  even_parts queues size links receivers first second third more many listeners are workers spares =
      let two : length second ≡ length links + length queues = added_length (HasReceiver receivers) (length receivers) first second workers ∙ (let a = are.many in omega arith) in
      record {
        listeners = λ place one low at. listeners place one
            (before_added (HasReceiver receivers) (length receivers) first second place one workers (omega arith)
            (before_added (λ _ o. IsSpare o) more second third place one spares (omega arith) at));
        workers = λ place one low at. has_worker queues receivers (length links) place one are
            (among_added (HasReceiver receivers) (length receivers) first second (length links + place) place one workers (ap (λ (n : ℕ). n + place) (sym many))
            (before_added (λ _ o. IsSpare o) more second third (length links + place) one spares (omega arith) at));
        spares = λ place one high at. among_added (λ _ o. IsSpare o) more second third place (place - length second) one spares (omega arith) at;
      }

  pub odd_parts : (shards : ℕ) (links : List (List ℕ × O)) (keeper rotator : Post N O) (first second third fourth : List (Post N O)) (more : ℕ) → first ≡ keeper ∷ [] → IsKeeper links keeper
      → AddsEach (IsConnector links) (length links) first second → third ≡ second ++ rotator ∷ [] → IsRotator shards rotator
      → AddsEach (λ _ one. IsSpare one) more third fourth → AreOdd shards links fourth
  odd_parts shards links keeper rotator first second third fourth more first_is keeps connectors third_is rotates spares =
      let one_first : length first ≡ 1 = ap (λ (ps : List (Post N O)). length ps) first_is in
      let two : length second ≡ 1 + length links = added_length (IsConnector links) (length links) first second connectors ∙ ap (λ (n : ℕ). n + length links) one_first in
      let turns : AddsEach (λ _ one. IsRotator shards one) 1 second third = record {
        added = rotator ∷ [];
        new_is = third_is;
        many_are = refl;
        each = λ place one at. only place one at;
      } in
      let three : length third ≡ 2 + length links = added_length (λ _ one. IsRotator shards one) 1 second third turns ∙ omega arith in
      let in_third : (place : ℕ) (one : Post N O) → place < length third → slice_get fourth place ≡ Some one → slice_get third place ≡ Some one =
      λ place one low at. before_added (λ _ o. IsSpare o) more third fourth place one spares low at in
      let in_second : (place : ℕ) (one : Post N O) → place < length second → slice_get fourth place ≡ Some one → slice_get second place ≡ Some one =
      λ place one low at. before_added (λ _ o. IsRotator shards o) 1 second third place one turns low (in_third place one (omega arith) at) in
      record {
        keeper = λ one at. is_keeper one
            (ap (λ (ps : List (Post N O)). slice_get ps 0) (sym first_is)
            ∙ before_added (IsConnector links) (length links) first second 0 one connectors (omega arith) (in_second 0 one (omega arith) at));
        connectors = λ place one low at. among_added (IsConnector links) (length links) first second (1 + place) place one connectors (ap (λ (n : ℕ). n + place) (sym one_first))
            (in_second (1 + place) one (omega arith) at);
        rotator = λ one at. among_added (λ _ o. IsRotator shards o) 1 second third (1 + length links) 0 one turns (omega arith)
            (in_third (1 + length links) one (omega arith) at);
        spares = λ place one high at. among_added (λ _ o. IsSpare o) more third fourth place (place - length third) one spares (omega arith) at;
      }
    where
      only : (place : ℕ) (one : Post N O) → slice_get (rotator ∷ []) place ≡ Some one → IsRotator shards one
      only zero one at = subst (λ (p : Post N O). IsRotator shards p) (let a : Some rotator ≡ Some one = at in cc) rotates
      only (suc place) one at = absurd (cc)

      is_keeper : (one : Post N O) → Some keeper ≡ Some one → IsKeeper links one
      is_keeper one same = subst (λ (p : Post N O). IsKeeper links p) (cc) keeps

lower : (a b : ℕ) → nat_lt a b ≡ true → a < b
lower a b is = grind (arith, nat_tests)

higher : (a b : ℕ) → nat_lt a b ≡ false → b ≤ a
higher a b is = grind (arith, nat_tests)

same : (a b : ℕ) → (a == b) ≡ true → a ≡ b
same a b is = grind (arith, nat_tests)

other : (a b : ℕ) → (a == b) ≡ false → a ≢ b
other a b is are = absurd (differ (sym (eq-eqb a b are) ∙ is))
  where
    differ : true ≡ false → ⊥
    differ equal = cc

-- ---- from both to all

module _ {N O : Type 0} (plan : Plan N O) (evens odds : List (Post N O)) (even : AreEven plan.queues plan.size plan.incoming evens) (odd : AreOdd plan.shards plan.outgoing odds) where
  abbrev listeners : ℕ
  listeners = length plan.incoming

  abbrev workers : ℕ
  workers = length plan.queues

  abbrev links : ℕ
  links = length plan.outgoing

  even_post : (place : ℕ) (one : Post N O) → slice_get evens place ≡ Some one
      → IsPost plan (if nat_lt place listeners then Listener place else if nat_lt place (listeners + workers) then Worker (place - listeners) else Spare) one
  even_post place one at = by_test (nat_lt place listeners) (nat_lt place (listeners + workers)) refl refl
    where
      by_test : (a b : Bool) → nat_lt place listeners ≡ a → nat_lt place (listeners + workers) ≡ b
          → IsPost plan (if a then Listener place else if b then Worker (place - listeners) else Spare) one
      by_test true b low all = even.listeners place one (lower place listeners low) at
      by_test false true low all =
          let high = higher place listeners low in
          let below = lower place (listeners + workers) all in
          even.workers (place - listeners) one (omega arith) (ap (λ (n : ℕ). slice_get evens n) (omega arith) ∙ at)
      by_test false false low all = even.spares place one (higher place (listeners + workers) all) at

  odd_post : (place : ℕ) (one : Post N O) → slice_get odds place ≡ Some one
      → IsPost plan (if place == 0 then Keeper else if nat_lt place (links + 1) then Connector (place - 1) else if place == links + 1 then Rotator else Spare) one
  odd_post place one at = by_test (place == 0) (nat_lt place (links + 1)) (place == links + 1) refl refl refl
    where
      by_test : (a b d : Bool) → (place == 0) ≡ a → nat_lt place (links + 1) ≡ b → (place == links + 1) ≡ d
          → IsPost plan (if a then Keeper else if b then Connector (place - 1) else if d then Rotator else Spare) one
      by_test true b d first some last = odd.keeper one (ap (λ (n : ℕ). slice_get odds n) (sym (same place 0 first)) ∙ at)
      by_test false true d first some last =
          let below = lower place (links + 1) some in
          let above = other place 0 first in
          odd.connectors (place - 1) one (omega arith) (ap (λ (n : ℕ). slice_get odds n) (omega arith) ∙ at)
      by_test false false true first some last =
          let is = same place (links + 1) last in
          odd.rotator one (ap (λ (n : ℕ). slice_get odds n) (omega arith) ∙ at)
      by_test false false false first some last =
          let high = higher place (links + 1) some in
          let above = other place (links + 1) last in
          odd.spares place one (omega arith) at

  pub all_posts : (pairs : ℕ) (woven : List (Post N O)) → length evens ≡ pairs → IsWoven evens odds woven → ArePosts plan (2 * pairs) woven
  all_posts pairs woven count are = record {
    many = are.many ∙ ap (λ (n : ℕ). 2 * n) count;
    each = λ caller one at. by_test caller one at (caller % 2 == 0) refl;
  }
    where
      by_test : (c : ℕ) (one : Post N O) → slice_get woven c ≡ Some one → (b : Bool) → (c % 2 == 0) ≡ b
          → IsPost plan (if b then (if nat_lt (c / 2) listeners then Listener (c / 2) else if nat_lt (c / 2) (listeners + workers) then Worker (c / 2 - listeners) else Spare)
          else (if c / 2 == 0 then Keeper else if nat_lt (c / 2) (links + 1) then Connector (c / 2 - 1) else if c / 2 == links + 1 then Rotator else Spare)) one
      by_test c one at true is =
          let rest = same (c % 2) 0 is in
          even_post (c / 2) one (are.even (c / 2) one (ap (λ (n : ℕ). slice_get woven n) (omega arith) ∙ at))
      by_test c one at false is =
          let rest = other (c % 2) 0 is in
          odd_post (c / 2) one (are.odd (c / 2) one (ap (λ (n : ℕ). slice_get woven n) (omega arith) ∙ at))
