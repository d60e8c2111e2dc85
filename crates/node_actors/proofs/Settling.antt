-- What a receiver knows of the senders that it has taken in, and that it has popped all once it has popped a mark of each
-- sender: there is at most one mark of each, so where there are as many as there are senders, each has one, and nothing
-- follows it.
use Rattle.std.proofs.Common.{◌≡◌, ◌≢◌, ℕ, zero, suc, ◌+◌, ◌-◌, ◌^◌, ◌<◌, ◌≤◌, ◌==◌, min, Bool, true, false, cond, List, [], ◌∷◌, ◌++◌, get_or, Option, refl, sym, ap, ◌∙◌, subst, arith, eq-eqb, ne_eqb, lt_of_not-le}
use Rattle.std.specs.Prelude.{All, Contains}
use Rattle.std.proofs.lemmas.List.{append-nil}
use Rattle.std.proofs.lemmas.List.Elements.{All-contains_itself}
use mathlib.Core.Logic.{dite}
use native.Mathlib.Decide.{ℕ_discrete, dec_le}
use Rattle.atomic_table.specs.Table.{Me}
use Rattle.crossbeam_queue.specs.declared.array_queue.Doing.{Doing}
use Rattle.crossbeam_queue.specs.Fifo.{Held}
use Rattle.mix_base.proofs.Members.{Contains-head}
use Rattle.node_actors.specs.declared.queues.items.Item.{Item}
use Rattle.node_actors.specs.declared.queues.hands.Sent.{Sent}
use Rattle.node_actors.specs.declared.queues.hands.Hand.{Hand}
use Rattle.node_actors.specs.Queues.{items_of, is_mark, mark_of, marks, Begins, EndsLast, Sending, WasFull}
use Rattle.node_actors.specs.QueueRule.{at_home, HoldsRest, Tells, IsReceiver}
use Rattle.node_actors.proofs.Posting.{items_of-append, marks-append}

-- the sum of f over the numbers below n
total : (ℕ → ℕ) → ℕ → ℕ
total f zero = 0
total f (suc n) = f n + total f n

total-zero : (n : ℕ) → total (λ _. 0) n ≡ 0
unfolding total
total-zero zero = refl
total-zero (suc n) = let h = total-zero n in omega arith

total-add : (f g : ℕ → ℕ) (n : ℕ) → total (λ k. f k + g k) n ≡ total f n + total g n
unfolding total
total-add f g zero = refl
total-add f g (suc n) = let h = total-add f g n in omega arith

total-same : (f g : ℕ → ℕ) (n : ℕ) → ((k : ℕ) → f k ≡ g k) → total f n ≡ total g n
unfolding total
total-same f g zero same = refl
total-same f g (suc n) same = let h = total-same f g n same in let e = same n in omega arith

abbrev at_point : ℕ → ℕ → ℕ → ℕ
at_point j c k = cond (j == k) c 0

at_itself : (j c k : ℕ) → j ≡ k → at_point j c k ≡ c
at_itself j c k e = rw (eq-eqb j k e) refl

at_another : (j c k : ℕ) → j ≢ k → at_point j c k ≡ 0
at_another j c k e = rw (ne_eqb j k e) refl

total-none : (j c n : ℕ) → n ≤ j → total (at_point j c) n ≡ 0
unfolding total
total-none j c zero le = refl
total-none j c (suc n) le = let h = total-none j c n (omega arith) in let e = at_another j c n (λ same. omega arith) in omega arith

total-point : (j c n : ℕ) → j < n → total (at_point j c) n ≡ c
unfolding total
total-point j c zero less = absurd (omega arith)
total-point j c (suc n) less =
    dite (ℕ_discrete j n)
    (λ same. let h = total-none j c n (omega arith) in let e = at_itself j c n same in omega arith)
    (λ other. let h = total-point j c n (omega arith) in let e = at_another j c n other in omega arith)

total-most : (f : ℕ → ℕ) (n : ℕ) → ((k : ℕ) → f k ≤ 1) → total f n ≤ n
unfolding total
total-most f zero few = omega arith
total-most f (suc n) few = let h = total-most f n few in let e = few n in omega arith

all_one : (f : ℕ → ℕ) (n : ℕ) → ((k : ℕ) → f k ≤ 1) → total f n ≡ n → (k : ℕ) → k < n → f k ≡ 1
unfolding total
all_one f zero few whole k less = absurd (omega arith)
all_one f (suc n) few whole k less =
    let most = total-most f n few in
    let mine = few n in
    let rest : total f n ≡ n = omega arith in
    let here : f n ≡ 1 = omega arith in
    dite (ℕ_discrete k n)
    (λ same. ap f same ∙ here)
    (λ other. all_one f n few rest k (omega arith))

marks_more : (b : Bool) (x : Item) (ys : List Item) → marks (cond b (x ∷ ys) ys) ≡ cond b (mark_of x) 0 + marks ys
marks_more true x ys = refl
marks_more false x ys = omega arith

all_tail : {X : Type 0} (P : X → Type 0) (x : X) (xs : List X) → All P (x ∷ xs) → All P xs
all_tail P x xs h k d l = h (suc k) d (omega arith)

-- the marks of all senders are the marks of each of them, added up
marks_split : (n : ℕ) (xs : List Item) → All (λ x. x.from < n) xs → total (λ k. marks (items_of k xs)) n ≡ marks xs
marks_split n [] low = total-zero n
marks_split n (x ∷ xs) low =
    let first : x.from < n = low 0 x (omega arith) in
    let rest = marks_split n xs (all_tail (λ (y : Item). y.from < n) x xs low) in
    let each = total-same (λ k. marks (items_of k (x ∷ xs))) (λ k. at_point x.from (mark_of x) k + marks (items_of k xs)) n (λ k. marks_more (x.from == k) x (items_of k xs)) in
    let two = total-add (at_point x.from (mark_of x)) (λ k. marks (items_of k xs)) n in
    let one = total-point x.from (mark_of x) n first in
    each ∙ (two ∙ (λ i. one i + rest i))

at_most_one : (xs : List Item) → EndsLast xs → marks xs ≤ 1
at_most_one [] ends = omega arith
at_most_one (x ∷ xs) ends = by (is_mark x) refl (at_most_one xs ends.1)
  where
    by : (b : Bool) → is_mark x ≡ b → marks xs ≤ 1 → cond b 1 0 + marks xs ≤ 1
    by true is few = let none : marks xs ≡ 0 = ap marks (ends.0 is) in omega arith
    by false is few = omega arith

front_empty : {X : Type 0} (xs ys : List X) → xs ++ ys ≡ [] → xs ≡ []
front_empty [] ys e = refl
front_empty (x ∷ xs) ys e = absurd (cc e)

back_empty : {X : Type 0} (xs ys : List X) → xs ++ ys ≡ [] → ys ≡ []
back_empty [] ys e = e
back_empty (x ∷ xs) ys e = absurd (cc e)

ends_front : (xs ys : List Item) → EndsLast (xs ++ ys) → EndsLast xs
ends_front [] ys ends = tt
ends_front (x ∷ xs) ys ends = ((λ mark. front_empty xs ys (ends.0 mark)), ends_front xs ys ends.1)

nothing_after : (xs ys : List Item) → EndsLast (xs ++ ys) → marks xs ≡ 1 → ys ≡ []
nothing_after [] ys ends one = absurd (omega arith)
nothing_after (x ∷ xs) ys ends one = by (is_mark x) refl one (nothing_after xs ys ends.1)
  where
    by : (b : Bool) → is_mark x ≡ b → cond b 1 0 + marks xs ≡ 1 → (marks xs ≡ 1 → ys ≡ []) → ys ≡ []
    by true is e later = back_empty xs ys (ends.0 is)
    by false is e later = later (omega arith)

none_behind : (k : ℕ) (xs ys : List Item) → items_of k (xs ++ ys) ≡ [] → items_of k ys ≡ []
none_behind k xs ys e = back_empty (items_of k xs) (items_of k ys) (sym (items_of-append k xs ys) ∙ e)

none_before : (k : ℕ) (xs ys : List Item) → items_of k (xs ++ ys) ≡ [] → items_of k xs ≡ []
none_before k xs ys e = front_empty (items_of k xs) (items_of k ys) (sym (items_of-append k xs ys) ∙ e)

-- where no number from n on has an item, each item is of a number below n
all_below : (n : ℕ) (xs : List Item) → ((k : ℕ) → n ≤ k → items_of k xs ≡ []) → All (λ x. x.from < n) xs
all_below n [] none k d l = absurd (omega arith)
all_below n (x ∷ xs) none zero d l =
    dite (dec_le n x.from)
    (λ le. let seen : x ∷ items_of x.from xs ≡ [] = rw (eq-eqb x.from x.from refl) at (none x.from le) in absurd (cc seen))
    (λ less. lt_of_not-le less)
all_below n (x ∷ xs) none (suc k) d l = all_below n xs (λ c le. none_behind c (x ∷ []) xs (none c le)) k d (omega arith)

by_members : {X : Type 0} (P : X → Type 0) (xs : List X) → ((x : X) → Contains xs x → P x) → All P xs
by_members P xs f k d l = f (get_or xs k d) (All-contains_itself xs k d l)

module _ (v : Hand) (items : List Item) (tells : Tells v items) where
  pub from_senders : All (λ x. x.from < v.senders) v.popped
  from_senders = all_below v.senders v.popped (λ k le. none_before k v.popped items (tells.few k le))

  -- what was popped of a sender is a front of what it pushed
  pub fronts : All (λ s. Begins (items_of s.from v.popped) s.items) v.pushed
  fronts = by_members (λ (s : Sent). Begins (items_of s.from v.popped) s.items) v.pushed
      (λ s here. (items_of s.from items, sym (items_of-append s.from v.popped items) ∙ sym (tells.known s here)))

  -- and a mark is the last that it pushed
  pub ends : All (λ s. EndsLast s.items) v.pushed
  ends = by_members (λ (s : Sent). EndsLast s.items) v.pushed (λ s here. subst EndsLast (sym (tells.known s here)) (tells.ends s.from))

  split_ends : (k : ℕ) → EndsLast (items_of k v.popped ++ items_of k items)
  split_ends k = subst EndsLast (items_of-append k v.popped items) (tells.ends k)

  nothing_left : marks v.popped ≡ v.senders → (k : ℕ) → items_of k items ≡ []
  nothing_left all k =
      dite (dec_le v.senders k)
      (λ le. none_behind k v.popped items (tells.few k le))
      (λ no.
      let whole = marks_split v.senders v.popped from_senders ∙ all in
      let one = all_one (λ c. marks (items_of c v.popped)) v.senders (λ c. at_most_one (items_of c v.popped) (ends_front (items_of c v.popped) (items_of c items) (split_ends c))) whole k (lt_of_not-le no) in
      nothing_after (items_of k v.popped) (items_of k items) (split_ends k) one)

  -- once there are as many marks as senders, all was popped
  pub settled : marks v.popped ≡ v.senders → All (λ s. items_of s.from v.popped ≡ s.items) v.pushed
  settled all = by_members (λ (s : Sent). items_of s.from v.popped ≡ s.items) v.pushed
      (λ s here.
      sym (tells.known s here ∙ (items_of-append s.from v.popped items ∙ (ap (λ (ys : List Item). items_of s.from v.popped ++ ys) (nothing_left all s.from) ∙ append-nil (items_of s.from v.popped)))))

-- where a push found the queue full
pub was_full : (s : Sending) (pushed : List Sent) (room : ℕ) → pushed ≡ record { from = s.from; items = s.pushed } ∷ [] → room ≡ 64 → Held room (λ items. HoldsRest pushed items) → WasFull s
was_full s pushed room is many held =
    let one : Sent = record { from = s.from; items = s.pushed } in
    (held.0, held.2.0, held.1 ∙ many, sym (held.2.1 one (subst (λ (ss : List Sent). Contains ss one) (sym is) (Contains-head one []))))

-- what a receiver keeps once it has popped an item
pub received : (senders ended ended' : ℕ) (me me' : Me (Option Item) (Doing Item Hand)) (item : Item) → IsReceiver senders ended me → me'.1 ≡ me.1
    → me'.0.client ≡ at_home me.0.client.senders (me.0.client.popped ++ item ∷ []) me.0.client.pushed → ended' ≡ min (ended + mark_of item) (2 ^ 64 - 1) → IsReceiver senders ended' me'
received senders ended ended' me me' item was hand client counts =
    let popped : List Item = me.0.client.popped ++ item ∷ [] in
    let same : me.0.client.senders ≡ senders = ap (λ (h : Hand). h.senders) was.home in
    let popped_is : me'.0.client.popped ≡ popped = ap (λ (h : Hand). h.popped) client in
    let pushed_is : me'.0.client.pushed ≡ me.0.client.pushed = ap (λ (h : Hand). h.pushed) client in
    let more : marks popped ≡ marks me.0.client.popped + mark_of item = marks-append me.0.client.popped (item ∷ []) ∙ add_nothing in
    record {
      hand = hand ∙ was.hand;
      home = client ∙ (λ i. at_home (same i) (sym popped_is i) (sym pushed_is i));
      few = was.few;
      counted = counts ∙ (ap (λ (n : ℕ). min (n + mark_of item) (2 ^ 64 - 1)) was.counted ∙ (least (marks me.0.client.popped) (mark_of item) ∙ ap (λ (n : ℕ). min n (2 ^ 64 - 1)) (sym more ∙ ap marks (sym popped_is))));
    }
  where
    add_nothing : marks me.0.client.popped + (mark_of item + 0) ≡ marks me.0.client.popped + mark_of item
    add_nothing = omega arith

    least : (n k : ℕ) → min (min n (2 ^ 64 - 1) + k) (2 ^ 64 - 1) ≡ min (n + k) (2 ^ 64 - 1)
    least n k = omega arith
