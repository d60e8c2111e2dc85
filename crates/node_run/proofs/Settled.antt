-- Receivers that take senders in, and what they know at the end.
use Rattle.std.proofs.Common.{◌≡◌, ℕ, zero, suc, ◌+◌, ◌<◌, List, [], ◌∷◌, ◌++◌, length, get_or, Contains, Some, refl, sym, ap, subst, ◌∙◌, ⊎_elim, arith}
use Rattle.std.specs.Global.{Vec}
use Rattle.std.specs.Prelude.{All, slice_get}
use mathlib.Core.Logic.{dite}
use native.Mathlib.Decide.{dec_lt}
use Rattle.atomic_table.specs.Seated.{TableId}
use Rattle.node_actors.specs.Queues.{AreOfSenders, HasAll, Receiving, Sending, after_take_in, items_of, sent_by}
use Rattle.node_actors.specs.declared.queues.hands.Sent.{Sent}
use Rattle.node_actors.proofs.Seating.{get_low, get_there, some_same}
use Rattle.node_run.specs.Settlings.{AreAllPopped, AreReceiversOf, AreSendersOf, AreSettledBelow, CanSettle, KnowAll, TakeIn}
use Rattle.node_run.proofs.Columns.{get_more_cases}

module _ {X : Type 0} where
  contains_more : (x : X) (xs : List X) (z : X) → Contains xs x → Contains (z ∷ xs) x
  contains_more x xs z there = (suc there.0, omega (arith, there.1), there.2)

  contains_front : (xs ys : List X) (x : X) → Contains xs x → Contains (xs ++ ys) x
  contains_front [] ys x there = absurd (omega (arith, there.1))
  contains_front (z ∷ xs) ys x there = at (contains_front xs ys x) there.0 there.1 there.2
    where
      at : (Contains xs x → Contains (xs ++ ys) x) → (k : ℕ) → k < length (z ∷ xs) → get_or (z ∷ xs) k x ≡ x → Contains (z ∷ (xs ++ ys)) x
      at later zero low is = (0, omega arith, is)
      at later (suc k) low is = contains_more x (xs ++ ys) z (later (k, omega (arith, low), is))

  contains_last : (xs : List X) (x : X) → Contains (xs ++ x ∷ []) x
  contains_last [] x = (0, omega arith, refl)
  contains_last (y ∷ xs) x = contains_more x (xs ++ x ∷ []) y (contains_last xs x)

pub knows_start : (receivers : List Receiving) → KnowAll [] receivers receivers
knows_start receivers = record {
  many = refl;
  same = λ w was is was_at is_at. ap (λ (r : Receiving). record r { known = is.known }) (some_same is was (sym is_at ∙ was_at));
  known = λ w k is list sender is_at list_at sender_at. absurd (omega (arith, get_low [] k list list_at));
}

-- the senders of one listener more
pub knows_more : (queues : List TableId) (k : ℕ) (lists : List (Vec Sending)) (list : Vec Sending) (old mid new : List Receiving) → AreSendersOf queues k list.items
    → length mid ≡ length queues → KnowAll lists old mid → TakeIn list.items mid new → KnowAll (lists ++ list ∷ []) old new
knows_more queues k lists list old mid new senders many know take = record {
  many = take.many ∙ know.many;
  same = λ w was is was_at is_at.
      let s = step w is is_at in
      let known : is.known ≡ s.0.known ++ sent_by s.1 ∷ [] = ap (λ (r : Receiving). r.known) s.4 in
      s.4 ∙ (ap (λ (r : Receiving). record r { known = s.0.known ++ sent_by s.1 ∷ [] }) (know.same w was s.0 was_at s.2)
      ∙ ap (λ (sent : List Sent). record was { known = sent }) (sym known));
  known = λ w j is other sender is_at other_at sender_at.
      let s = step w is is_at in
      let known : s.0.known ++ sent_by s.1 ∷ [] ≡ is.known = ap (λ (r : Receiving). r.known) (sym s.4) in
      subst (λ (sent : List Sent). Contains sent (sent_by sender)) known
      (⊎_elim
      (λ (there : slice_get lists j ≡ Some other). contains_front s.0.known (sent_by s.1 ∷ []) (sent_by sender) (know.known w j s.0 other sender s.2 there sender_at))
      (λ (last : (j ≡ length lists) × (list ≡ other)).
      let same : s.1 ≡ sender = some_same s.1 sender (sym s.3 ∙ (ap (λ (l : Vec Sending). slice_get l.items w) last.1 ∙ sender_at)) in
      subst (λ (x : Sending). Contains (s.0.known ++ sent_by s.1 ∷ []) (sent_by x)) same (contains_last s.0.known (sent_by s.1)))
      (get_more_cases lists list j other other_at));
}
  where
    step : (w : ℕ) (is : Receiving) → slice_get new w ≡ Some is
        → (x : Receiving) × (s : Sending) × (slice_get mid w ≡ Some x) × (slice_get list.items w ≡ Some s) × (is ≡ after_take_in x s)
    step w is is_at =
        let low = get_low new w is is_at in
        let x = get_there mid w (omega (arith, low, take.many)) in
        let s = get_there list.items w (omega (arith, low, take.many, many, senders.many)) in
        (x.0, s.0, x.1, s.1, take.each w x.0 is s.0 x.1 is_at s.1)

-- the receivers are still those of the queues
pub still_own : (queues : List TableId) (lists : List (Vec Sending)) (old new : List Receiving) → AreReceiversOf queues old → KnowAll lists old new → AreReceiversOf queues new
still_own queues lists old new own know = record {
  many = know.many ∙ own.many;
  own = λ w queue is queue_at is_at.
      let was = get_there old w (omega (arith, get_low new w is is_at, know.many)) in
      ap (λ (r : Receiving). r.queue) (know.same w was.0 is was.1 is_at) ∙ own.own w queue was.0 queue_at was.1;
}

-- one receiver more has learned
pub settled_more : (n : ℕ) (receivers : List Receiving) (receiver : Receiving) → slice_get receivers n ≡ Some receiver → HasAll receiver → AreOfSenders receiver
    → AreSettledBelow n receivers → AreSettledBelow (n + 1) receivers
settled_more n receivers receiver there all from settled = record {
  all = λ w r low is. dite (dec_lt w n) (λ less. settled.all w r less is) (λ past. here HasAll w r low is past all);
  from = λ w r low is. dite (dec_lt w n) (λ less. settled.from w r less is) (λ past. here AreOfSenders w r low is past from);
}
  where
    here : (P : Receiving → Type 0) (w : ℕ) (r : Receiving) → w < n + 1 → slice_get receivers w ≡ Some r → (w < n → ⊥) → P receiver → P r
    here P w r low is past p =
        let same : n ≡ w = omega (arith, low, past) in
        subst P (some_same receiver r (sym there ∙ (ap (λ (i : ℕ). slice_get receivers i) same ∙ is))) p

-- at the end
pub popped_all : (queues : List TableId) (old new : List Receiving) (senders : List (Vec Sending)) → CanSettle queues old senders → KnowAll senders old new
    → AreSettledBelow (length queues) new → AreAllPopped old senders
popped_all queues old new senders can know settled = record {
  all = λ k w list sender receiver list_at sender_at receiver_at.
      let low = get_low old w receiver receiver_at in
      let is = get_there new w (omega (arith, low, know.many)) in
      let there = know.known w k is.0 list sender is.1 list_at sender_at in
      let all = settled.all w is.0 (omega (arith, low, can.receivers_are.many)) is.1 in
      let popped : is.0.popped ≡ receiver.popped = ap (λ (r : Receiving). r.popped) (know.same w receiver is.0 receiver_at is.1) in
      let found : items_of sender.from is.0.popped ≡ sender.pushed = subst (λ (s : Sent). items_of s.from is.0.popped ≡ s.items) there.2 (all there.0 (sent_by sender) there.1) in
      subst (λ (n : ℕ). items_of n receiver.popped ≡ sender.pushed) ((can.senders_are k list list_at).from w sender sender_at)
      (subst (λ items. items_of sender.from items ≡ sender.pushed) popped found);
  from = λ w receiver receiver_at.
      let low = get_low old w receiver receiver_at in
      let is = get_there new w (omega (arith, low, know.many)) in
      let all = settled.from w is.0 (omega (arith, low, can.receivers_are.many)) is.1 in
      subst (λ (r : Receiving). All (λ x. x.from < r.senders) r.popped) (know.same w receiver is.0 receiver_at is.1) all;
}
