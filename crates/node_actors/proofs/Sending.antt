-- The senders of a listener: each may still push, or has pushed its end mark.
use Rattle.std.proofs.Common.{◌≡◌, ℕ, ◌<◌, List, [], ◌∷◌, ◌++◌, length, get_or, refl, sym, ap, subst, ◌∙◌, arith, Result, Ok, Err, Some, ◌≢◌, Bool, true, false, eq-eqb, ne_eqb}
use Rattle.std.specs.Prelude.{IfErr, OnOk, is_ok, slice_get, slice_set}
use Rattle.std.proofs.lemmas.List.{append-nil, length-set}
use Rattle.std.proofs.lemmas.Option.{slice_get-get_or}
use Rattle.atomic_table.specs.Seated.{TableId}
use Rattle.node_actors.specs.Listening.{AreOpenTo, PushesWhere, handed_where}
use Rattle.node_actors.specs.Packets.{arrived_packets, Packet, packet_of}
use Rattle.node_actors.specs.Queues.{after_push, marks, Sending}
use Rattle.node_actors.specs.declared.queues.items.Arrival.{Arrival}
use Rattle.node_actors.specs.declared.queues.items.Full.{Full}
use Rattle.node_actors.specs.declared.queues.items.Item.{Item}
use Rattle.node_actors.proofs.Posting.{marks-append}
use Rattle.node_actors.proofs.Working.{arrived_more}
use Rattle.node_actors.proofs.Seating.{get_set_cases, some_same}

-- a push of an arrival, or none, leaves the sender at its queue, with no mark
pub push_keeps : (result : Result (Unit {0}) Full) (old new : Sending) (arrival : Arrival) → OnOk result (new ≡ after_push old (Some arrival))
    → IfErr result (λ full. (full.arrival ≡ arrival) × (new ≡ old)) → (new.queue ≡ old.queue) × (marks new.pushed ≡ marks old.pushed)
push_keeps (Ok u) old new arrival pushed same =
    let item : Item = record { from = old.from; arrival = Some arrival } in
    let more : marks (old.pushed ++ item ∷ []) ≡ marks old.pushed = marks-append old.pushed (item ∷ []) ∙ omega arith in
    (ap (λ (s : Sending). s.queue) pushed, ap (λ (s : Sending). marks s.pushed) pushed ∙ more)
push_keeps (Err full) old new arrival pushed same = (ap (λ (s : Sending). s.queue) same.1, ap (λ (s : Sending). marks s.pushed) same.1)

-- one sender of the list changed so
pub open_still : (queues : List TableId) (senders : List Sending) (i : ℕ) (old new : Sending) → AreOpenTo queues senders → i < length queues → old ≡ get_or senders i old
    → (new.queue ≡ old.queue) × (marks new.pushed ≡ marks old.pushed) → AreOpenTo queues (slice_set senders i new)
open_still queues senders i old new are low there keeps =
    let many = are.many in
    let at : slice_get senders i ≡ Some old = slice_get-get_or senders i old (omega arith) ∙ ap Some (sym there) in
    record {
      many = length-set senders i new ∙ are.many;
      own = λ j queue sender queue_is sender_is. get_set_cases (λ (s : Sending). s.queue ≡ queue) senders i j new sender sender_is
          (λ same. keeps.0 ∙ are.own i queue old (ap (λ (n : ℕ). slice_get queues n) (sym same) ∙ queue_is) at)
          (λ other was. are.own j queue sender queue_is was);
      open_to = λ j sender sender_is. get_set_cases (λ (s : Sending). marks s.pushed ≡ 0) senders i j new sender sender_is
          (λ same. keeps.1 ∙ are.open_to i old at)
          (λ other was. are.open_to j sender was);
    }

-- a push of an arrival, or none, is one packet more, or none
push_adds : (result : Result (Unit {0}) Full) (i : ℕ) (old new : Sending) (arrival : Arrival) → OnOk result (new ≡ after_push old (Some arrival))
    → IfErr result (λ full. (full.arrival ≡ arrival) × (new ≡ old))
    → (new.from ≡ old.from) × (arrived_packets new.pushed ≡ arrived_packets old.pushed ++ handed_where (is_ok result) i i (packet_of arrival))
push_adds (Ok u) i old new arrival pushed same =
    let item : Item = record { from = old.from; arrival = Some arrival } in
    let here : handed_where true i i (packet_of arrival) ≡ packet_of arrival ∷ [] = rw (eq-eqb i i refl) refl in (
      ap (λ (s : Sending). s.from) pushed,
      ap (λ (s : Sending). arrived_packets s.pushed) pushed
          ∙ (arrived_more old.pushed item ∙ ap (λ (ps : List Packet). arrived_packets old.pushed ++ ps) (sym here)),
    )
push_adds (Err full) i old new arrival pushed same =
    (ap (λ (s : Sending). s.from) same.1, ap (λ (s : Sending). arrived_packets s.pushed) same.1 ∙ sym (append-nil (arrived_packets old.pushed)))

none_elsewhere : (handed : Bool) (i j : ℕ) (packet : Packet) → j ≢ i → handed_where handed i j packet ≡ []
none_elsewhere true i j packet other = rw (ne_eqb i j (λ same. other (sym same))) refl
none_elsewhere false i j packet other = refl

pub pushes_where : (result : Result (Unit {0}) Full) (senders : List Sending) (i : ℕ) (old new : Sending) (arrival : Arrival) → i < length senders → old ≡ get_or senders i old
    → OnOk result (new ≡ after_push old (Some arrival)) → IfErr result (λ full. (full.arrival ≡ arrival) × (new ≡ old))
    → PushesWhere (is_ok result) i (packet_of arrival) senders (slice_set senders i new)
pushes_where result senders i old new arrival low there pushed same =
    let packet = packet_of arrival in
    let at : slice_get senders i ≡ Some old = slice_get-get_or senders i old low ∙ ap Some (sym there) in
    let step = push_adds result i old new arrival pushed same in
    record {
      many = length-set senders i new;
      each = λ j was is was_at is_at. get_set_cases
          (λ (s : Sending). (s.from ≡ was.from) × (arrived_packets s.pushed ≡ arrived_packets was.pushed ++ handed_where (is_ok result) i j packet)) senders i j new is is_at
          (λ here.
          let is_old : old ≡ was = some_same old was (sym at ∙ (ap (λ (n : ℕ). slice_get senders n) (sym here) ∙ was_at)) in
          subst (λ (s : Sending). (new.from ≡ s.from) × (arrived_packets new.pushed ≡ arrived_packets s.pushed ++ handed_where (is_ok result) i j packet)) is_old
          (subst (λ (n : ℕ). (new.from ≡ old.from) × (arrived_packets new.pushed ≡ arrived_packets old.pushed ++ handed_where (is_ok result) i n packet)) (sym here) step))
          (λ other still.
          let same : is ≡ was = some_same is was (sym still ∙ was_at) in (
            ap (λ (s : Sending). s.from) same,
            ap (λ (s : Sending). arrived_packets s.pushed) same
                ∙ (sym (append-nil (arrived_packets was.pushed))
                ∙ ap (λ (ps : List Packet). arrived_packets was.pushed ++ ps) (sym (none_elsewhere (is_ok result) i j packet other))),
          ));
    }

-- nothing was pushed
pub pushes_none : (senders : List Sending) (i : ℕ) (packet : Packet) → PushesWhere false i packet senders senders
pushes_none senders i packet = record {
  many = refl;
  each = λ j was is was_at is_at.
      let same : is ≡ was = some_same is was (sym is_at ∙ was_at) in
      (ap (λ (s : Sending). s.from) same, ap (λ (s : Sending). arrived_packets s.pushed) same ∙ sym (append-nil (arrived_packets was.pushed)));
}
