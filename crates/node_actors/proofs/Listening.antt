-- A listener goes on: packets in turn, what was pushed, and its link.
use Rattle.std.proofs.Common.{◌≡◌, ◌⊎◌, ℕ, zero, suc, ◌+◌, ◌*◌, ◌/◌, ◌%◌, ◌<◌, ◌≤◌, List, [], ◌∷◌, ◌++◌, length, refl, sym, ap, subst, ◌∙◌, inl, inr, ⊎_elim, arith, Option, Some, None, append_assoc, div-add-mod'}
use Rattle.std.specs.Prelude.{All, IfSome, IsSomeAnd, SomeIff, ◌^◌, slice_get}
use Rattle.std.proofs.lemmas.List.{append-nil, length_push}
use Rattle.std.proofs.lemmas.List.Elements.{All-nil, All-push}
use Rattle.std.proofs.lemmas.List.Concat.{flat_map-append}
use Rattle.std.proofs.lemmas.Nat.{mod-mul-add, mod_below}
use mathlib.Core.Logic.{dite}
use native.Mathlib.Decide.{ℕ_discrete}
use Rattle.mix_shard.specs.Items.{Item}
use Rattle.node_actors.specs.Fates.{DealerState}
use Rattle.node_actors.specs.Listening.{AreFinished, AreOpenTo, AreSenders, EndsBy, GoesOn, HasListened, InTurn, IsNext, IsTurn, KeepsListening, LinkState, ListenerPost, ListenerState, Listened, PushesWhere, handed, handed_where, kept, kept_where, number_at, taken_bytes, taken_packet}
use Rattle.node_actors.specs.Packets.{arrived_packets, dealt_packets, Packet, packet_with}
use Rattle.node_actors.specs.Queues.{after_push, marks, Sending}
use Rattle.node_actors.specs.Seats.{IsSameSeat}
use Rattle.node_actors.specs.declared.actors.fates.Dealt.{Dealt}
use Rattle.node_actors.specs.declared.actors.listening.Ending.{Ending}
use Rattle.node_actors.specs.declared.actors.listening.Ending.TheVariants.{Short, Failed, Numbers}
use Rattle.node_actors.specs.declared.actors.listening.Taken.{Taken}
use Rattle.node_actors.specs.declared.queues.items.Item as queued
use Rattle.node_actors.proofs.Posting.{marks-append}
use Rattle.node_actors.proofs.Working.{arrived_more}
use Rattle.node_actors.proofs.Seating.{get_low, get_there, same_then}

-- whose turn is next
pub next_turn : (j w : ℕ) → 0 < w → (j % w + 1) % w ≡ (j + 1) % w
next_turn j w some =
    let split = div-add-mod' j w in
    let low = mod_below j w some in
    dite (ℕ_discrete (j % w + 1) w)
    (λ last.
    let here : (j % w + 1) % w ≡ 0 = ap (λ (n : ℕ). n % w) last ∙ (ap (λ (n : ℕ). n % w) (one_more w) ∙ mod-mul-add 1 w 0 some) in
    let there : (j + 1) % w ≡ 0 = ap (λ (n : ℕ). n % w) (carried split last) ∙ mod-mul-add (suc (j / w)) w 0 some in
    here ∙ sym there)
    (λ other.
    let below : j % w + 1 < w = omega (arith, other, low) in
    let here : (j % w + 1) % w ≡ j % w + 1 = ap (λ (n : ℕ). n % w) (with_none (j % w + 1) w) ∙ mod-mul-add 0 w (j % w + 1) below in
    let there : (j + 1) % w ≡ j % w + 1 = ap (λ (n : ℕ). n % w) (moved split) ∙ mod-mul-add (j / w) w (j % w + 1) below in
    here ∙ sym there)
  where
    one_more : (w : ℕ) → w ≡ 1 * w + 0
    one_more w = omega arith

    with_none : (n w : ℕ) → n ≡ 0 * w + n
    with_none n w = omega arith

    carried : j / w * w + j % w ≡ j → j % w + 1 ≡ w → j + 1 ≡ suc (j / w) * w + 0
    carried split last = omega arith

    moved : j / w * w + j % w ≡ j → j + 1 ≡ j / w * w + (j % w + 1)
    moved split = omega arith

-- the next number by a checked sum
pub next_by : (next : Option ℕ) (number : ℕ) → SomeIff next (number < 2 ^ 64) number → IsNext next number
next_by None number above = lt_or_le_of above
  where
    lt_or_le_of : ¬ (number < 2 ^ 64) → 2 ^ 64 ≤ number
    lt_or_le_of above = omega (arith, above)
next_by (Some next) number is = is.1

-- the last of a list, or one before
get_push_cases : {X : Type 0} (xs : List X) (y x : X) (j : ℕ) → slice_get (xs ++ y ∷ []) j ≡ Some x → (slice_get xs j ≡ Some x) ⊎ ((j ≡ length xs) × (y ≡ x))
get_push_cases [] y x zero is = inr (refl, cc)
get_push_cases [] y x (suc j) is = absurd (nothing is)
  where
    nothing : None ≡ Some x → ⊥
    nothing same = cc
get_push_cases (z ∷ xs) y x zero is = inl is
get_push_cases (z ∷ xs) y x (suc j) is =
    ⊎_elim (λ (was : slice_get xs j ≡ Some x). inl was) (λ (h : (j ≡ length xs) × (y ≡ x)). inr (ap suc h.0, h.1)) (get_push_cases xs y x j is)

pub turn_more : (n k w : ℕ) (course : List Taken) (taken : Taken) → InTurn n k w course → IsTurn n k w (length course) taken → InTurn n k w (course ++ taken ∷ [])
turn_more n k w course taken so_far here j t is =
    ⊎_elim
    (λ (was : slice_get course j ≡ Some t). so_far j t was)
    (λ (h : (j ≡ length course) × (taken ≡ t)). subst (λ (i : ℕ). IsTurn n k w i t) (sym h.0) (subst (λ (u : Taken). IsTurn n k w (length course) u) h.1 here))
    (get_push_cases course taken t j is)

pub handed_more : (i : ℕ) (course : List Taken) (taken : Taken)
    → handed i (course ++ taken ∷ []) ≡ handed i course ++ handed_where taken.handed taken.worker i (taken_packet taken)
handed_more i course taken =
    flat_map-append (λ (t : Taken). handed_where t.handed t.worker i (taken_packet t)) course (taken ∷ [])
    ∙ ap (λ (ps : List Packet). handed i course ++ ps) (append-nil (handed_where taken.handed taken.worker i (taken_packet taken)))

pub kept_more : (course : List Taken) (taken : Taken) → kept (course ++ taken ∷ []) ≡ kept course ++ kept_where taken.handed (taken_packet taken)
kept_more course taken =
    flat_map-append (λ (t : Taken). kept_where t.handed (taken_packet t)) course (taken ∷ [])
    ∙ ap (λ (ps : List Packet). kept course ++ ps) (append-nil (kept_where taken.handed (taken_packet taken)))

pub senders_more : (k : ℕ) (course : List Taken) (old new : List Sending) (taken : Taken) → AreSenders k course old
    → PushesWhere taken.handed taken.worker (taken_packet taken) old new → AreSenders k (course ++ taken ∷ []) new
senders_more k course old new taken are pushes i sender is =
    let low : i < length old = subst (λ (n : ℕ). i < n) pushes.many (get_low new i sender is) in
    let was = get_there old i low in
    let step = pushes.each i was.0 sender was.1 is in
    let before = are i was.0 was.1 in
    record {
      from = step.0 ∙ before.from;
      packets = step.1
          ∙ (ap (λ (ps : List Packet). ps ++ handed_where taken.handed taken.worker i (taken_packet taken)) before.packets ∙ sym (handed_more i course taken));
    }

-- ---- its link

bytes_then : (first second : List Taken) → taken_bytes (first ++ second) ≡ taken_bytes first ++ taken_bytes second
bytes_then first second = flat_map-append (λ (t : Taken). t.packet.value.items) first second

left_then : (old mid new : Option (List ℕ)) (first second : List Taken) → IfSome old (λ was. IsSomeAnd mid (λ is. was ≡ taken_bytes first ++ is))
    → IfSome mid (λ was. IsSomeAnd new (λ is. was ≡ taken_bytes second ++ is)) → IfSome old (λ was. IsSomeAnd new (λ is. was ≡ taken_bytes (first ++ second) ++ is))
left_then None mid new first second one two = tt
left_then (Some was) None new first second one two = absurd one
left_then (Some was) (Some mid) None first second one two = absurd two
left_then (Some was) (Some mid) (Some is) first second one two =
    one
    ∙ (ap (λ (bytes : List ℕ). taken_bytes first ++ bytes) two
    ∙ (sym (append_assoc (taken_bytes first) (taken_bytes second) is) ∙ ap (λ (bytes : List ℕ). bytes ++ is) (sym (bytes_then first second))))

pub goes_then : (old mid new : LinkState) (first second : List Taken) → GoesOn old mid first → GoesOn mid new second → GoesOn old new (first ++ second)
goes_then old mid new first second one two = record {
  left = left_then old.left mid.left new.left first second one.left two.left;
  count = let a = one.count in let b = two.count in omega arith;
}

pub keeps_then : {C : Type 0} (a b c : ListenerState C) → KeepsListening a b → KeepsListening b c → KeepsListening a c
keeps_then a b c first second = record {
  same_post = second.same_post ∙ first.same_post;
  same_seat = same_then a.dealer.seat b.dealer.seat c.dealer.seat first.same_seat second.same_seat;
  took = first.took ++ second.took;
  course_is = second.course_is ∙ (ap (λ (ts : List Taken). ts ++ second.took) first.course_is ∙ append_assoc a.course first.took second.took);
  goes_on = goes_then a.link b.link c.link first.took second.took first.goes_on second.goes_on;
}

ends_late : (old mid new : Option (List ℕ)) (first : List Taken) (cut : ℕ) → IfSome old (λ was. IsSomeAnd mid (λ is. was ≡ taken_bytes first ++ is))
    → IfSome mid (λ was. IfSome new (λ is. length is ≡ cut)) → IfSome old (λ was. IfSome new (λ is. length is ≡ cut))
ends_late None mid new first cut one two = tt
ends_late (Some was) None new first cut one two = absurd one
ends_late (Some was) (Some mid) new first cut one two = two

-- why it ended after it had taken more
pub ends_then : {C : Type 0} (post : ListenerPost C) (many : ℕ) (old mid new : LinkState) (first : List Taken) (ending : Ending) → GoesOn old mid first
    → EndsBy post many mid new ending → EndsBy post many old new ending
ends_then post many old mid new first (Short cut) one ends = (ends.0, ends_late old.left mid.left new.left first cut one.left ends.1)
ends_then post many old mid new first Failed one ends = let count = one.count in omega arith
ends_then post many old mid new first Numbers one ends = ends

-- nothing was taken
pub goes_first : (link : LinkState) → GoesOn link link []
goes_first link = record { left = same link.left; count = omega arith }
  where
    same : (left : Option (List ℕ)) → IfSome left (λ was. IsSomeAnd left (λ is. was ≡ is))
    same None = tt
    same (Some bytes) = refl

pub keeps_first : {C : Type 0} (state : ListenerState C) → KeepsListening state state
keeps_first state = record {
  same_post = refl;
  same_seat = refl;
  took = [];
  course_is = sym (append-nil state.course);
  goes_on = goes_first state.link;
}

-- one packet more
module _ {C : Type 0} (may_give : C → ℕ → Type 0) (old : ListenerState C) (taken : Taken) (number : ℕ) (next : Option ℕ) (has : HasListened may_give old)
    (number_is : old.next ≡ Some number) (next_is : IsNext next (number + old.post.listeners)) where
  number_more : (n k j : ℕ) → number_at n k j + n ≡ number_at n k (j + 1)
  number_more n k j = let more : (j + 1) * n ≡ j * n + n = omega arith in omega arith

  many : length (old.course ++ taken ∷ []) ≡ length old.course + 1
  many = length_push old.course taken

  here : number ≡ number_at old.post.listeners old.post.place (length old.course)
  here = subst (λ (o : Option ℕ). IsNext o (number_at old.post.listeners old.post.place (length old.course))) number_is has.next_is

  next_more : IsNext next (number_at old.post.listeners old.post.place (length (old.course ++ taken ∷ [])))
  next_more =
      subst (λ (n : ℕ). IsNext next n)
      (ap (λ (n : ℕ). n + old.post.listeners) here
      ∙ (number_more old.post.listeners old.post.place (length old.course) ∙ ap (λ (j : ℕ). number_at old.post.listeners old.post.place j) (sym many)))
      next_is

  worker_more : (old.worker + 1) % length old.post.queues ≡ length (old.course ++ taken ∷ []) % length old.post.queues
  worker_more =
      let w = length old.post.queues in
      ap (λ (n : ℕ). (n + 1) % w) has.worker_is ∙ (next_turn (length old.course) w has.some ∙ ap (λ (j : ℕ). j % w) (sym many))

  abbrev state_with : DealerState → LinkState → List Sending → ListenerPost C → List Taken → ListenerState C
  state_with dealer link senders post course =
      record { post = post; dealer = dealer; link = link; senders = senders; next = next; worker = (old.worker + 1) % length old.post.queues; course = course }

  pub listened_on : (post : ListenerPost C) (course : List Taken) (dealer : DealerState) (link : LinkState) (senders : List Sending) (receipt : ℕ) (bytes : List ℕ) → post ≡ old.post
      → course ≡ old.course ++ taken ∷ [] → taken_packet taken ≡ packet_with number receipt bytes → taken.worker ≡ old.worker → length bytes ≡ old.post.size → may_give old.post.clock receipt
      → AreOpenTo old.post.queues senders → PushesWhere taken.handed old.worker (packet_with number receipt bytes) old.senders senders
      → dealt_packets dealer.log ≡ dealt_packets old.dealer.log ++ kept_where taken.handed (packet_with number receipt bytes)
      → HasListened may_give (record { post = post; dealer = dealer; link = link; senders = senders; next = next; worker = (old.worker + 1) % length old.post.queues; course = course })
  listened_on post course dealer link senders receipt bytes post_is course_is packet_is taken_worker size given senders_open pushes logged =
      let pushes_it : PushesWhere taken.handed taken.worker (taken_packet taken) old.senders senders =
      subst (λ (p : Packet). PushesWhere taken.handed taken.worker p old.senders senders) (sym packet_is)
      (subst (λ (w : ℕ). PushesWhere taken.handed w (packet_with number receipt bytes) old.senders senders) (sym taken_worker) pushes) in
      subst (λ (z : ListenerPost C × List Taken). HasListened may_give (state_with dealer link senders z.0 z.1)) (λ i. (sym post_is i, sym course_is i))
      (record {
        some = has.some;
        senders_open = senders_open;
        senders_are = senders_more old.post.place old.course old.senders senders taken has.senders_are pushes_it;
        turns = turn_more old.post.listeners old.post.place (length old.post.queues) old.course taken has.turns
            (record { number = ap (λ (p : Packet). p.number) packet_is ∙ here; worker = taken_worker ∙ has.worker_is });
        next_is = next_more;
        worker_is = worker_more;
        sizes = All-push (λ (t : Taken). length t.packet.value.items ≡ old.post.size) old.course taken has.sizes (ap (λ (p : Packet). length p.bytes) packet_is ∙ size);
        receipts = All-push (λ (t : Taken). may_give old.post.clock t.receipt) old.course taken has.receipts (subst (may_give old.post.clock) (sym (ap (λ (p : Packet). p.receipt) packet_is)) given);
        log_is = logged
            ∙ (ap (λ (p : Packet). dealt_packets old.dealer.log ++ kept_where taken.handed p) (sym packet_is)
            ∙ (ap (λ (ps : List Packet). ps ++ kept_where taken.handed (taken_packet taken)) has.log_is ∙ sym (kept_more old.course taken)));
      })

one_left : (old new : Option (List ℕ)) (taken : Taken) → IfSome old (λ was. IsSomeAnd new (λ is. was ≡ taken.packet.value.items ++ is))
    → IfSome old (λ was. IsSomeAnd new (λ is. was ≡ taken_bytes (taken ∷ []) ++ is))
one_left None new taken left = tt
one_left (Some was) None taken left = absurd left
one_left (Some was) (Some is) taken left = left ∙ ap (λ (bytes : List ℕ). bytes ++ is) (sym (append-nil taken.packet.value.items))

end_left : (old new : Option (List ℕ)) (cut : ℕ) → IfSome old (λ was. IsSomeAnd new (λ is. (length was ≡ cut) × (is ≡ was))) → IfSome old (λ was. IsSomeAnd new (λ is. was ≡ is))
end_left None new cut left = tt
end_left (Some was) None cut left = absurd left
end_left (Some was) (Some is) cut left = sym left.1

failed_left : (old new : Option (List ℕ)) → IfSome old (λ was. IsSomeAnd new (λ is. is ≡ was)) → IfSome old (λ was. IsSomeAnd new (λ is. was ≡ is))
failed_left None new left = tt
failed_left (Some was) None left = absurd left
failed_left (Some was) (Some is) left = sym left

module _ {C : Type 0} (old new : ListenerState C) (post_is : new.post ≡ old.post) (count : old.link.faults ≤ new.link.faults) where
  pub keeps_packet : (taken : Taken) (bytes : List ℕ) → taken.packet.value.items ≡ bytes → IsSameSeat old.dealer.seat new.dealer.seat → new.course ≡ old.course ++ taken ∷ []
      → IfSome old.link.left (λ was. IsSomeAnd new.link.left (λ is. was ≡ bytes ++ is)) → KeepsListening old new
  keeps_packet taken bytes bytes_are seat course left = record {
    same_post = post_is;
    same_seat = seat;
    took = taken ∷ [];
    course_is = course;
    goes_on = record {
      left = one_left old.link.left new.link.left taken
          (subst (λ (b : List ℕ). IfSome old.link.left (λ was. IsSomeAnd new.link.left (λ is. was ≡ b ++ is))) (sym bytes_are) left);
      count = count;
    };
  }

  keeps_rest : new.dealer ≡ old.dealer → new.course ≡ old.course → IfSome old.link.left (λ was. IsSomeAnd new.link.left (λ is. was ≡ is)) → KeepsListening old new
  keeps_rest dealer course left = record {
    same_post = post_is;
    same_seat = ap (λ (d : DealerState). d.seat) dealer ∙ ap (λ (d : DealerState). record old.dealer.seat { passes = d.seat.passes }) (sym dealer);
    took = [];
    course_is = course ∙ sym (append-nil old.course);
    goes_on = record { left = left; count = count };
  }

  pub keeps_end : (cut : ℕ) → new.dealer ≡ old.dealer → new.course ≡ old.course
      → IfSome old.link.left (λ was. IsSomeAnd new.link.left (λ is. (length was ≡ cut) × (is ≡ was))) → KeepsListening old new
  keeps_end cut dealer course left = keeps_rest dealer course (end_left old.link.left new.link.left cut left)

  pub keeps_failed : new.dealer ≡ old.dealer → new.course ≡ old.course → IfSome old.link.left (λ was. IsSomeAnd new.link.left (λ is. is ≡ was)) → KeepsListening old new
  keeps_failed dealer course left = keeps_rest dealer course (failed_left old.link.left new.link.left left)

-- a listener that has ended
pub listened_end : {C : Type 0} (may_give : C → ℕ → Type 0) (old served : ListenerState C) (log : List (Dealt Item)) (senders : List Sending) (ending : Ending)
    → KeepsListening old served → EndsBy old.post (length served.course) old.link served.link ending → HasListened may_give served → log ≡ served.dealer.log
    → AreFinished served.senders senders
    → Listened may_give old (record { log = log; link = served.link; senders = senders; course = served.course; ending = ending })
listened_end {C = C} may_give old served log senders ending keeps ends has log_is are = record {
  turns = subst (λ (p : ListenerPost C). InTurn p.listeners p.place (length p.queues) served.course) keeps.same_post has.turns;
  sizes = subst (λ (p : ListenerPost C). All (λ taken. length taken.packet.value.items ≡ p.size) served.course) keeps.same_post has.sizes;
  receipts = subst (λ (p : ListenerPost C). All (λ taken. may_give p.clock taken.receipt) served.course) keeps.same_post has.receipts;
  log_is = ap (λ (l : List (Dealt Item)). dealt_packets l) log_is ∙ has.log_is;
  many = are.many ∙ (has.senders_open.many ∙ ap (λ (p : ListenerPost C). length p.queues) keeps.same_post);
  own = λ i queue sender queue_is sender_is. let b = before i sender sender_is in
      ap (λ (s : Sending). s.queue) b.2 ∙ has.senders_open.own i queue b.0 (ap (λ (p : ListenerPost C). slice_get p.queues i) keeps.same_post ∙ queue_is) b.1;
  senders_are = λ i sender sender_is.
      let b = before i sender sender_is in
      let fed = has.senders_are i b.0 b.1 in
      record {
        from = ap (λ (s : Sending). s.from) b.2 ∙ (fed.from ∙ ap (λ (p : ListenerPost C). p.place) keeps.same_post);
        packets = ap (λ (s : Sending). arrived_packets s.pushed) b.2
            ∙ (arrived_more b.0.pushed (mark b.0) ∙ (append-nil (arrived_packets b.0.pushed) ∙ fed.packets));
      };
  finished = λ i sender sender_is.
      let b = before i sender sender_is in
      let none = has.senders_open.open_to i b.0 b.1 in
      let more : marks (b.0.pushed ++ mark b.0 ∷ []) ≡ marks b.0.pushed + 1 = marks-append b.0.pushed (mark b.0 ∷ []) ∙ omega arith in
      ap (λ (s : Sending). marks s.pushed) b.2 ∙ (more ∙ omega (arith, none));
  took = keeps.took;
  course_is = keeps.course_is;
  goes_on = keeps.goes_on;
  ends_by = ends;
}
  where
    mark : Sending → queued.Item
    mark s = record { from = s.from; arrival = None }

    before : (i : ℕ) (sender : Sending) → slice_get senders i ≡ Some sender
        → (was : Sending) × (slice_get served.senders i ≡ Some was) × (sender ≡ after_push was None)
    before i sender is =
        let low : i < length served.senders = subst (λ (n : ℕ). i < n) are.many (get_low senders i sender is) in
        let was = get_there served.senders i low in
        (was.0, was.1, are.ended i was.0 sender was.1 is)

-- a listener that has taken nothing
pub listened_first : {C : Type 0} (may_give : C → ℕ → Type 0) (state : ListenerState C) → 0 < length state.post.queues → AreOpenTo state.post.queues state.senders
    → AreSenders state.post.place [] state.senders → state.dealer.log ≡ [] → IsNext state.next (state.post.place + 1) → state.worker ≡ 0 → state.course ≡ []
    → HasListened may_give state
listened_first may_give state some open_to senders log next_is worker course = record {
  some = some;
  senders_open = open_to;
  senders_are = subst (λ (ts : List Taken). AreSenders state.post.place ts state.senders) (sym course) senders;
  turns = subst (λ (ts : List Taken). InTurn state.post.listeners state.post.place (length state.post.queues) ts) (sym course) (λ j taken is. absurd (nothing taken is));
  next_is = subst (λ (n : ℕ). IsNext state.next n)
      (first state.post.listeners state.post.place ∙ ap (λ (ts : List Taken). number_at state.post.listeners state.post.place (length ts)) (sym course)) next_is;
  worker_is = worker ∙ (sym (mod-mul-add 0 (length state.post.queues) 0 some)
      ∙ (ap (λ (n : ℕ). n % length state.post.queues) (zero_is (length state.post.queues))
      ∙ ap (λ (ts : List Taken). length ts % length state.post.queues) (sym course)));
  sizes = subst (All (λ taken. length taken.packet.value.items ≡ state.post.size)) (sym course) (All-nil (λ (t : Taken). length t.packet.value.items ≡ state.post.size));
  receipts = subst (All (λ taken. may_give state.post.clock taken.receipt)) (sym course) (All-nil (λ (t : Taken). may_give state.post.clock t.receipt));
  log_is = ap (λ (l : List (Dealt Item)). dealt_packets l) log ∙ ap (λ (ts : List Taken). kept ts) (sym course);
}
  where
    nothing : (taken : Taken) → None ≡ Some taken → ⊥
    nothing taken same = cc

    first : (n k : ℕ) → k + 1 ≡ number_at n k 0
    first n k = omega arith

    zero_is : (w : ℕ) → 0 * w + 0 ≡ 0
    zero_is w = omega arith
