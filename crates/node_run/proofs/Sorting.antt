-- What callers left, sorted one after the other: each list has what all of them left, and has room for the rest.
use Rattle.std.proofs.Common.{◌≡◌, ℕ, ◌+◌, ◌-◌, ◌^◌, ◌≤◌, min, List, [], ◌∷◌, ◌++◌, length, sum_by, vec_capacity, refl, sym, ap, ◌∙◌, arith}
use Rattle.std.specs.Global.{Vec}
use Rattle.std.proofs.lemmas.List.{flat_map_more, length-append}
use Rattle.std.proofs.lemmas.List.Sums.{fold-append, sum_by-append}
use Rattle.std.proofs.lemmas.Grind.{flat_map-append}
use Rattle.node_actors.specs.declared.actors.works.Left.{Left}
use Rattle.node_actors.specs.declared.actors.works.Work.{Work}
use Rattle.node_actors.specs.declared.actors.works.Work.TheVariants as work
use Rattle.node_run.specs.Accounts.{dropped_of, unsent_of}
use Rattle.node_run.specs.Gatherings.{AreSorted, Fits, FitsInto, PutsWork, all_of, count_in, link_in, link_out_in, local_after, receiver_in, senders_in}
use Rattle.node_run.specs.Rooms.{HasRoomFor}
use Rattle.node_run.specs.declared.life.rooms.Works.{Works}

abbrev limit : ℕ
limit = 2 ^ 64 - 1

count_more : (count sum part : ℕ) → count ≡ min sum limit → min (count + part) limit ≡ min (sum + part) limit
count_more count sum part is = omega (arith, is)

module _ {P N O : Type 0} where
  -- the lists have room for so many
  pub record HaveRoomFor (listeners workers links : ℕ) (works : Works P N O) : Type 0 where
    pub incoming : listeners ≤ vec_capacity works.incoming
    pub senders : listeners ≤ vec_capacity works.senders
    pub receivers : workers ≤ vec_capacity works.receivers
    pub outgoing : links ≤ vec_capacity works.outgoing

  pub works_start : (listeners workers links : ℕ) (works : Works P N O) → HasRoomFor listeners workers links works → HaveRoomFor listeners workers links works
  works_start listeners workers links works room = record {
    incoming = room.incoming.room;
    senders = room.senders.room;
    receivers = room.receivers.room;
    outgoing = room.outgoing.room;
  }

  pub works_more : (listeners workers links : ℕ) (one : Work P N O) (old new : Works P N O) → HaveRoomFor listeners workers links old → PutsWork one old new
      → HaveRoomFor listeners workers links new
  works_more listeners workers links one old new room puts = record {
    incoming = omega (arith, room.incoming, puts.lists.incoming.1);
    senders = omega (arith, room.senders, puts.lists.senders.1);
    receivers = omega (arith, room.receivers, puts.lists.receivers.1);
    outgoing = omega (arith, room.outgoing, puts.lists.outgoing.1);
  }

  -- a listener has one link, and one list of senders
  as_many : (one : Work P N O) → length (senders_in one) ≡ length (link_in one)
  as_many (work.Listened link log dropped senders course ending) = refl
  as_many (work.Worked receiver log dropped) = refl
  as_many (work.Connected hop link log unsent) = refl
  as_many (work.Kept local log unsent) = refl
  as_many work.Rotated = refl
  as_many work.Ended = refl
  as_many (work.Fed link) = refl

module _ {Q P N O : Type 0} where
  all_more : {A : Type 0} (part : Work P N O → List A) (lefts : List (Left Q P N O)) (gave : Left Q P N O) (old new : List A) → old ≡ all_of part lefts
      → new ≡ old ++ part gave.work → new ≡ all_of part (lefts ++ gave ∷ [])
  all_more {A} part lefts gave old new was is =
      is ∙ (ap (λ (xs : List A). xs ++ part gave.work) was ∙ flat_map_more (λ (g : Left Q P N O). part g.work) [] lefts gave)

  sum_more : (part : Work P N O → ℕ) (lefts : List (Left Q P N O)) (gave : Left Q P N O) (old new : ℕ) → old ≡ count_in part lefts
      → new ≡ min (old + part gave.work) limit → new ≡ count_in part (lefts ++ gave ∷ [])
  sum_more part lefts gave old new was is =
      let sums : sum_by (λ (g : Left Q P N O). part g.work) (lefts ++ gave ∷ []) ≡ sum_by (λ (g : Left Q P N O). part g.work) lefts + part gave.work =
      sum_by-append (λ (g : Left Q P N O). part g.work) lefts (gave ∷ []) ∙ omega arith in
      is ∙ (count_more old (sum_by (λ (g : Left Q P N O). part g.work) lefts) (part gave.work) was ∙ ap (λ (n : ℕ). min n limit) (sym sums))

  pub sorted_start : (listeners workers links : ℕ) (works : Works P N O) → HasRoomFor listeners workers links works → AreSorted {Q = Q} [] works
  sorted_start listeners workers links works room = record {
    incoming = room.incoming.empty;
    senders = room.senders.empty;
    receivers = room.receivers.empty;
    outgoing = room.outgoing.empty;
    local = room.local;
    unsent = room.unsent ∙ omega arith;
    dropped = room.dropped ∙ omega arith;
  }

  pub sorted_more : (lefts : List (Left Q P N O)) (gave : Left Q P N O) (old new : Works P N O) → AreSorted lefts old → PutsWork gave.work old new
      → AreSorted (lefts ++ gave ∷ []) new
  sorted_more lefts gave old new sorted puts = record {
    incoming = all_more link_in lefts gave old.incoming.items new.incoming.items sorted.incoming puts.lists.incoming.0;
    senders = all_more senders_in lefts gave old.senders.items new.senders.items sorted.senders puts.lists.senders.0;
    receivers = all_more receiver_in lefts gave old.receivers.items new.receivers.items sorted.receivers puts.lists.receivers.0;
    outgoing = all_more link_out_in lefts gave old.outgoing.items new.outgoing.items sorted.outgoing puts.lists.outgoing.0;
    local = puts.lists.local
        ∙ (ap (λ (items : List P). local_after items gave.work) sorted.local
        ∙ sym (fold-append (λ (before : List P) (g : Left Q P N O). local_after before g.work) [] lefts (gave ∷ [])));
    unsent = sum_more unsent_of lefts gave old.unsent new.unsent sorted.unsent puts.unsent;
    dropped = sum_more dropped_of lefts gave old.dropped new.dropped sorted.dropped puts.dropped;
  }

  fits_next : {A : Type 0} (part : Work P N O → List A) (lefts all rest : List (Left Q P N O)) (gave : Left Q P N O) (list : Vec A) (many : ℕ)
      → all ≡ lefts ++ gave ∷ rest → list.items ≡ all_of part lefts → length (all_of part all) ≡ many → many ≤ vec_capacity list → Fits list (part gave.work)
  fits_next {A} part lefts all rest gave list many whole is total room =
      let split : all_of part all ≡ all_of part lefts ++ (part gave.work ++ all_of part rest) =
      ap (λ (xs : List (Left Q P N O)). all_of part xs) whole ∙ flat_map-append (λ (g : Left Q P N O). part g.work) lefts (gave ∷ rest) in
      let lengths : length (all_of part all) ≡ length (all_of part lefts) + (length (part gave.work) + length (all_of part rest)) =
      ap (λ (xs : List A). length xs) split
      ∙ (length-append (all_of part lefts) (part gave.work ++ all_of part rest)
      ∙ ap (λ (n : ℕ). length (all_of part lefts) + n) (length-append (part gave.work) (all_of part rest))) in
      let now : length list.items ≡ length (all_of part lefts) = ap (λ (xs : List A). length xs) is in
      omega (arith, lengths, now, total, room, list.ok)

  pub many_senders : (lefts : List (Left Q P N O)) → length (all_of senders_in lefts) ≡ length (all_of link_in lefts)
  many_senders [] = refl
  many_senders (gave ∷ lefts) =
      length-append (senders_in gave.work) (all_of senders_in lefts)
      ∙ (ap (λ (n : ℕ). n + length (all_of senders_in lefts)) (as_many gave.work)
      ∙ (ap (λ (n : ℕ). length (link_in gave.work) + n) (many_senders lefts) ∙ sym (length-append (link_in gave.work) (all_of link_in lefts))))

  pub works_fit : (all lefts rest : List (Left Q P N O)) (gave : Left Q P N O) (works : Works P N O) → all ≡ lefts ++ gave ∷ rest → AreSorted lefts works
      → HaveRoomFor (length (all_of link_in all)) (length (all_of receiver_in all)) (length (all_of link_out_in all)) works → FitsInto gave.work works
  works_fit all lefts rest gave works whole sorted room = record {
    incoming = fits_next link_in lefts all rest gave works.incoming (length (all_of link_in all)) whole sorted.incoming refl room.incoming;
    senders = fits_next senders_in lefts all rest gave works.senders (length (all_of link_in all)) whole sorted.senders (many_senders all) room.senders;
    receivers = fits_next receiver_in lefts all rest gave works.receivers (length (all_of receiver_in all)) whole sorted.receivers refl room.receivers;
    outgoing = fits_next link_out_in lefts all rest gave works.outgoing (length (all_of link_out_in all)) whole sorted.outgoing refl room.outgoing;
  }
