-- What connectors and feeds hand on, one packet more at a time.
use Rattle.std.proofs.Common.{◌≡◌, ℕ, ◌+◌, ◌≤◌, Bool, true, false, List, [], ◌∷◌, ◌++◌, length, refl, sym, ap, subst, ◌∙◌, arith, append_assoc, length-append, Option, Some, None, Result, Ok, Err, cond}
use Rattle.std.specs.Prelude.{All, count_by, IfSome, IsSomeAnd, is_ok, not, OnErr, OnOk}
use Rattle.std.proofs.lemmas.List.{append-nil}
use Rattle.std.proofs.lemmas.List.Elements.{All-append, All-push}
use Rattle.std.proofs.lemmas.List.Concat.{flat_map-append}
use Rattle.std.proofs.lemmas.List.Sums.{sum_by-append}
use Rattle.mix_base.specs.Faults.{Rose}
use Rattle.due_queue.specs.declared.destinations.Dest.TheVariants.{Hop, Local}
use Rattle.mix_shard.specs.Items.{Item, destination}
use Rattle.node_actors.specs.Found.{IsUnlinked}
use Rattle.node_actors.specs.Handing.{HandsFeed, HandsOver, KeepsLocal, kept_items, kept_where, LinkOutState, not_left_out, RoseBy, sent_packets, sent_where}
use Rattle.node_actors.specs.Takings.{not_sent}
use Rattle.node_actors.specs.declared.actors.takings.Taking.{Taking}
use Rattle.node_actors.proofs.TakeLogs.{unsent_more}

-- ---- what a link was given, where it tells

-- it tells now what it told before, and then these
abbrev pub Given : Option (List (List ℕ)) → Option (List (List ℕ)) → List (List ℕ) → Type 0
Given old new more = IfSome old (λ was. IsSomeAnd new (λ is. is ≡ was ++ more))

given_none : (told : Option (List (List ℕ))) → Given told told []
given_none None = tt
given_none (Some packets) = sym (append-nil packets)

given_then : (a b c : Option (List (List ℕ))) (first second : List (List ℕ)) → Given a b first → Given b c second → Given a c (first ++ second)
given_then None b c first second one other = tt
given_then (Some x) None c first second one other = absurd one
given_then (Some x) (Some y) None first second one other = absurd other
given_then (Some x) (Some y) (Some z) first second one other = other ∙ (ap (λ (packets : List (List ℕ)). packets ++ second) one ∙ append_assoc x first second)

given_same : (a b : Option (List (List ℕ))) → IfSome a (λ before. b ≡ Some before) → Given a b []
given_same None b same = tt
given_same (Some x) b same = subst (λ (o : Option (List (List ℕ))). IsSomeAnd o (λ is. is ≡ x ++ [])) (sym same) (sym (append-nil x))

-- one send: the packet was given, or nothing was and the link failed
module _ {E : Type 0} (old new : Option (List (List ℕ))) (result : Result (Unit {0}) E) (packet : List ℕ) where
  pub send_gives : (more : Bool → List (List ℕ)) → more true ≡ packet ∷ [] → more false ≡ [] → IfSome old (λ before. OnOk result (new ≡ Some (before ++ packet ∷ [])))
      → IfSome old (λ before. OnErr result (new ≡ Some before)) → Given old new (more (is_ok result))
  send_gives more sent unsent given same = by_old old given same
    where
      by_result : (was : List (List ℕ)) (result : Result (Unit {0}) E) → OnOk result (new ≡ Some (was ++ packet ∷ [])) → OnErr result (new ≡ Some was)
          → IsSomeAnd new (λ is. is ≡ was ++ more (is_ok result))
      by_result was (Ok u) given same =
          subst (λ (o : Option (List (List ℕ))). IsSomeAnd o (λ is. is ≡ was ++ more true)) (sym given) (ap (λ (xs : List (List ℕ)). was ++ xs) (sym sent))
      by_result was (Err e) given same =
          subst (λ (o : Option (List (List ℕ))). IsSomeAnd o (λ is. is ≡ was ++ more false)) (sym same) (sym (append-nil was) ∙ ap (λ (xs : List (List ℕ)). was ++ xs) (sym unsent))

      by_old : (old : Option (List (List ℕ))) → IfSome old (λ before. OnOk result (new ≡ Some (before ++ packet ∷ [])))
          → IfSome old (λ before. OnErr result (new ≡ Some before)) → Given old new (more (is_ok result))
      by_old None given same = tt
      by_old (Some was) given same = by_result was result given same

pub send_fails : {E : Type 0} (result : Result (Unit {0}) E) (old new : ℕ) → OnErr result (Rose old new) → old ≤ new → RoseBy (not_sent (is_ok result)) old new
send_fails (Ok u) old new rose count = omega (arith, count)
send_fails (Err e) old new rose count = omega (arith, rose)

-- ---- a connector's link

sent_more : (log : List (Taking Item)) (taking : Taking Item) → sent_packets (log ++ taking ∷ []) ≡ sent_packets log ++ sent_where taking.sent taking.item.value.out
sent_more log taking =
    let one : Taking Item → List (List ℕ) = λ t. sent_where t.sent t.item.value.out in
    flat_map-append one log (taking ∷ []) ∙ ap (λ (packets : List (List ℕ)). sent_packets log ++ packets) (append-nil (one taking))

pub hands_first : (hop : List ℕ) (link : LinkOutState) → HandsOver hop link link []
hands_first hop link = record {
  hops = λ k d low. absurd (omega (arith, low));
  given = given_none link.given;
  failed = omega arith;
}

pub hands_on : (hop : List ℕ) (was old new : LinkOutState) (log : List (Taking Item)) (taking : Taking Item) → HandsOver hop was old log
    → destination taking.item.value.out ≡ Hop hop → Given old.given new.given (sent_where taking.sent taking.item.value.out)
    → RoseBy (not_sent taking.sent) old.faults new.faults → HandsOver hop was new (log ++ taking ∷ [])
hands_on hop was old new log taking hands to given failed = record {
  hops = All-push (λ (t : Taking Item). destination t.item.value.out ≡ Hop hop) log taking hands.hops to;
  given = subst (Given was.given new.given) (sym (sent_more log taking))
      (given_then was.given old.given new.given (sent_packets log) (sent_where taking.sent taking.item.value.out) hands.given given);
  failed =
      let so_far = hands.failed in
      let more = unsent_more log taking in
      omega (arith, so_far, more, failed);
}

pub hands_finished : (hop : List ℕ) (was old new : LinkOutState) (log : List (Taking Item)) → HandsOver hop was old log → IfSome old.given (λ before. new.given ≡ Some before)
    → old.faults ≤ new.faults → HandsOver hop was new log
hands_finished hop was old new log hands same count = record {
  hops = hands.hops;
  given = subst (Given was.given new.given) (append-nil (sent_packets log))
      (given_then was.given old.given new.given (sent_packets log) [] hands.given (given_same old.given new.given same));
  failed =
      let so_far = hands.failed in
      omega (arith, so_far, count);
}

-- ---- what is kept for recipients of the node

kept_more : (log : List (Taking Item)) (taking : Taking Item) → kept_items (log ++ taking ∷ []) ≡ kept_items log ++ kept_where taking.sent taking.item.value
kept_more log taking =
    let one : Taking Item → List Item = λ t. kept_where t.sent t.item.value in
    flat_map-append one log (taking ∷ []) ∙ ap (λ (items : List Item). kept_items log ++ items) (append-nil (one taking))

pub keeps_first : (hops : List (List ℕ)) → KeepsLocal hops [] []
keeps_first hops = record {
  unlinked = λ k d low. absurd (omega (arith, low));
  local_is = refl;
  for_recipients = λ k d low. absurd (omega (arith, low));
  none_lost = λ k d low. absurd (omega (arith, low));
}

pub keeps_on : (hops : List (List ℕ)) (local new : List Item) (log : List (Taking Item)) (taking : Taking Item) → KeepsLocal hops local log
    → IsUnlinked hops (destination taking.item.value.out) → new ≡ local ++ kept_where taking.sent taking.item.value
    → All (λ item. destination item.out ≡ Local) (kept_where taking.sent taking.item.value) → (destination taking.item.value.out ≡ Local → taking.sent ≡ true)
    → KeepsLocal hops new (log ++ taking ∷ [])
keeps_on hops local new log taking keeps unlinked kept own none_lost = record {
  unlinked = All-push (λ (t : Taking Item). IsUnlinked hops (destination t.item.value.out)) log taking keeps.unlinked unlinked;
  local_is = kept ∙ (ap (λ (items : List Item). items ++ kept_where taking.sent taking.item.value) keeps.local_is ∙ sym (kept_more log taking));
  for_recipients = subst (All (λ item. destination item.out ≡ Local)) (sym kept)
      (All-append (λ item. destination item.out ≡ Local) local (kept_where taking.sent taking.item.value) keeps.for_recipients own);
  none_lost = All-push (λ (t : Taking Item). destination t.item.value.out ≡ Local → t.sent ≡ true) log taking keeps.none_lost none_lost;
}

-- ---- a feed

left_out_more : (packets : List (List ℕ)) (sent : List Bool) (packet : List ℕ) (is : Bool) → length sent ≡ length packets
    → not_left_out (packets ++ packet ∷ []) (sent ++ is ∷ []) ≡ not_left_out packets sent ++ not_left_out (packet ∷ []) (is ∷ [])
left_out_more [] [] packet is many = refl
left_out_more [] (s ∷ sent) packet is many = absurd (omega (arith, many))
left_out_more (p ∷ packets) [] packet is many = absurd (omega (arith, many))
left_out_more (p ∷ packets) (true ∷ sent) packet is many = ap (λ (xs : List (List ℕ)). p ∷ xs) (left_out_more packets sent packet is (omega (arith, many)))
left_out_more (p ∷ packets) (false ∷ sent) packet is many = left_out_more packets sent packet is (omega (arith, many))

left_out_one : (is : Bool) → 0 + cond (not is) 1 0 ≡ not_sent is
left_out_one true = refl
left_out_one false = refl

pub feed_first : (link : LinkOutState) → HandsFeed [] link link
feed_first link = record { sent = []; each = refl; given = given_none link.given; failed = omega arith }

pub feed_on : (packets : List (List ℕ)) (was old new : LinkOutState) (packet : List ℕ) (is : Bool) → HandsFeed packets was old
    → Given old.given new.given (not_left_out (packet ∷ []) (is ∷ [])) → RoseBy (not_sent is) old.faults new.faults → HandsFeed (packets ++ packet ∷ []) was new
feed_on packets was old new packet is hands given failed = record {
  sent = hands.sent ++ is ∷ [];
  each = length-append hands.sent (is ∷ []) ∙ (ap (λ (n : ℕ). n + 1) hands.each ∙ sym (length-append packets (packet ∷ [])));
  given = subst (Given was.given new.given) (sym (left_out_more packets hands.sent packet is hands.each))
      (given_then was.given old.given new.given (not_left_out packets hands.sent) (not_left_out (packet ∷ []) (is ∷ [])) hands.given given);
  failed =
      let so_far = hands.failed in
      let more = sum_by-append (λ (b : Bool). cond (not b) 1 0) hands.sent (is ∷ []) ∙ ap (λ (n : ℕ). count_by (λ b. not b) hands.sent + n) (left_out_one is) in
      omega (arith, so_far, more, failed);
}

pub feed_finished : (packets : List (List ℕ)) (was old new : LinkOutState) → HandsFeed packets was old → IfSome old.given (λ before. new.given ≡ Some before)
    → old.faults ≤ new.faults → HandsFeed packets was new
feed_finished packets was old new hands same count = record {
  sent = hands.sent;
  each = hands.each;
  given = subst (Given was.given new.given) (append-nil (not_left_out packets hands.sent))
      (given_then was.given old.given new.given (not_left_out packets hands.sent) [] hands.given (given_same old.given new.given same));
  failed =
      let so_far = hands.failed in
      omega (arith, so_far, count);
}
