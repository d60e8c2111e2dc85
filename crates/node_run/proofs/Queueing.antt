-- Queues are opened, and their receivers make senders.
use Rattle.std.proofs.Common.{◌≡◌, ◌<◌, ◌≤◌, ◌+◌, ℕ, List, [], ◌∷◌, ◌++◌, length, refl, sym, ap, subst, ◌∙◌, arith, Some}
use Rattle.std.specs.Prelude.{slice_get, slice_set}
use Rattle.std.proofs.lemmas.List.{length_push, length-set}
use Rattle.std.proofs.lemmas.Option.{slice_get_within}
use Rattle.atomic_table.specs.Seated.{TableId}
use Rattle.node_actors.specs.Queues.{Receiving, Sending, after_sender, new_sender}
use Rattle.node_actors.proofs.Seating.{get_set_cases, some_same}
use Rattle.node_run.specs.Posts.{AreNewSenders, AreReceivers, receiver_with}
use Rattle.node_run.proofs.Walking.{one_behind, two_behind}

pub one_queue_more : (made : ℕ) (queues : List TableId) (receivers : List Receiving) (queue : TableId) (receiver : Receiving) → AreReceivers made queues receivers
    → receiver ≡ receiver_with made queue → AreReceivers made (queues ++ queue ∷ []) (receivers ++ receiver ∷ [])
one_queue_more made queues receivers queue receiver are is =
    let many = are.many in
    record {
      many = length_push receivers receiver ∙ (ap (λ (n : ℕ). n + 1) many ∙ sym (length_push queues queue));
      each = two_behind (λ (q : TableId) (r : Receiving). r ≡ receiver_with made q) queues receivers queue receiver many are.each is;
    }

-- the receivers below this place have made a sender, and the others haven't
pub record HaveMadeBelow (place : ℕ) (queues : List TableId) (receivers : List Receiving) (senders : List Sending) (worker : ℕ) : Type 0 where
  pub many : length receivers ≡ length queues
  pub made : (i : ℕ) (queue : TableId) (receiver : Receiving) → i < worker → slice_get queues i ≡ Some queue → slice_get receivers i ≡ Some receiver
      → receiver ≡ receiver_with (place + 1) queue
  pub same : (i : ℕ) (queue : TableId) (receiver : Receiving) → worker ≤ i → slice_get queues i ≡ Some queue → slice_get receivers i ≡ Some receiver
      → receiver ≡ receiver_with place queue
  pub count : length senders ≡ worker
  pub senders_are : (i : ℕ) (sender : Sending) → slice_get senders i ≡ Some sender → (queue : TableId) → slice_get queues i ≡ Some queue → sender ≡ new_sender queue place

pub none_made : (place : ℕ) (queues : List TableId) (receivers : List Receiving) → AreReceivers place queues receivers → HaveMadeBelow place queues receivers [] 0
none_made place queues receivers are = record {
  many = are.many;
  made = λ i queue receiver low. absurd (omega arith);
  same = λ i queue receiver low. are.each i queue receiver;
  count = refl;
  senders_are = λ i sender at. absurd (cc);
}

pub next_made : (place : ℕ) (queues : List TableId) (receivers : List Receiving) (senders : List Sending) (worker : ℕ) (queue : TableId) (old new : Receiving) (sender : Sending)
    → HaveMadeBelow place queues receivers senders worker → slice_get queues worker ≡ Some queue → slice_get receivers worker ≡ Some old → new ≡ after_sender old → sender ≡ new_sender queue old.senders
    → HaveMadeBelow place queues (slice_set receivers worker new) (senders ++ sender ∷ []) (worker + 1)
next_made place queues receivers senders worker queue old new sender below queue_at old_at new_is sender_is =
    let was : old ≡ receiver_with place queue = below.same worker queue old (omega arith) queue_at old_at in
    let is : new ≡ receiver_with (place + 1) queue = new_is ∙ ap after_sender was in
    let sent : sender ≡ new_sender queue place = sender_is ∙ ap (λ (r : Receiving). new_sender queue r.senders) was in
    record {
      many = length-set receivers worker new ∙ below.many;
      made = λ i q receiver low q_at receiver_at. get_set_cases (λ (r : Receiving). r ≡ receiver_with (place + 1) q) receivers worker i new receiver receiver_at
          (λ here.
          let q_is : queue ≡ q = some_same queue q (sym queue_at ∙ (ap (λ (n : ℕ). slice_get queues n) (sym here) ∙ q_at)) in
          is ∙ ap (λ (x : TableId). receiver_with (place + 1) x) q_is)
          (λ other still. below.made i q receiver (omega arith) q_at still);
      same = λ i q receiver low q_at receiver_at. get_set_cases (λ (r : Receiving). r ≡ receiver_with place q) receivers worker i new receiver receiver_at
          (λ here. absurd (omega arith))
          (λ other still. below.same i q receiver (omega arith) q_at still);
      count = length_push senders sender ∙ ap (λ (n : ℕ). n + 1) below.count;
      senders_are = one_behind (λ (i : ℕ) (s : Sending). (q : TableId) → slice_get queues i ≡ Some q → s ≡ new_sender q place) senders sender below.senders_are
          (λ q q_at. sent ∙ ap (λ (x : TableId). new_sender x place) (some_same queue q (sym queue_at ∙ (ap (λ (n : ℕ). slice_get queues n) (sym below.count) ∙ q_at))));
    }

pub all_made : (place : ℕ) (queues : List TableId) (receivers : List Receiving) (senders : List Sending) (worker : ℕ) → HaveMadeBelow place queues receivers senders worker
    → worker ≡ length queues → AreReceivers (place + 1) queues receivers × AreNewSenders place queues senders
all_made place queues receivers senders worker below all = (
  record {
    many = below.many;
    each = λ i queue receiver queue_at receiver_at. below.made i queue receiver
        (subst (λ (n : ℕ). i < n) (sym all) (slice_get_within queues i queue queue_at)) queue_at receiver_at;
  },
  record { many = below.count ∙ all; each = λ i queue sender queue_at sender_at. below.senders_are i sender sender_at queue queue_at },
)
