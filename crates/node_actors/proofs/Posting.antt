-- Each move on a queue keeps its rule.
use Rattle.std.proofs.Common.{◌≡◌, ◌≢◌, ℕ, zero, suc, ◌+◌, ◌<◌, ◌==◌, Bool, true, false, cond, List, [], ◌∷◌, ◌++◌, length, set, refl, sym, ap, ◌∙◌, subst, ⊎_elim, arith, append_assoc, length-set, eq-eqb, ne_eqb}
use Rattle.std.specs.Prelude.{Contains, slice_index_or}
use Rattle.std.proofs.lemmas.List.{append-nil}
use Rattle.std.proofs.lemmas.List.Elements.{Contains-append_cases, filter-append}
use mathlib.Core.Option.{some, some-ne-none, some-injective}
use mathlib.Core.Logic.{dite}
use native.Mathlib.Decide.{ℕ_discrete}
use lib.ListN.{get_elem?}
use Rattle.mix_base.proofs.Members.{none_in_empty, Contains-head}
use Rattle.crossbeam_queue.specs.Fifo.{Pushes, Pops, Forks, Merges, Learns}
use Rattle.crossbeam_queue.proofs.Lists.{at_set, set_else}
use Rattle.node_actors.specs.declared.queues.items.Item.{Item}
use Rattle.node_actors.specs.declared.queues.hands.Sent.{Sent}
use Rattle.node_actors.specs.declared.queues.hands.Hand.{Hand}
use Rattle.node_actors.specs.Queues.{items_of, is_mark, marks, EndsLast}
use Rattle.node_actors.specs.QueueRule.{at_home, sending, spent, first_items, Knows, IsPosted, HoldsRest, Tells}

module _ {A : Type 0} where
  pub in_one : (a b : A) → Contains (a ∷ []) b → a ≡ b
  in_one a b here = at here.0 here.1 here.2
    where
      at : (k : ℕ) → k < length (a ∷ []) → slice_index_or (a ∷ []) k b ≡ b → a ≡ b
      at zero h e = e
      at (suc k) h e = absurd (omega arith)

  -- in a list with one place set, each element is the new one or stands elsewhere
  each_set : (K : ℕ → A → Type 0) (l : List A) (i : ℕ) (a : A) → K i a → ((j : ℕ) (b : A) → j ≢ i → get_elem? l j ≡ some b → K j b) → (j : ℕ) (b : A) → get_elem? (set l i a) j ≡ some b → K j b
  each_set K l i a mine others j b e =
      ⊎_elim
      (λ (t : (j ≡ i) × (a ≡ b)). subst (λ (z : ℕ × A). K z.0 z.1) (λ k. (sym t.0 k, t.1 k)) mine)
      (λ (t : (j ≢ i) × (get_elem? l j ≡ some b)). others j b t.0 t.1)
      (at_set l i j a b e)

  -- in a list with one element more, each element is the last one or stands before it
  each_snoc : (K : ℕ → A → Type 0) (l : List A) (a : A) → K (length l) a → ((j : ℕ) (b : A) → get_elem? l j ≡ some b → K j b) → (j : ℕ) (b : A) → get_elem? (l ++ a ∷ []) j ≡ some b → K j b
  each_snoc K [] a mine others zero b e = subst (K zero) (some-injective a b e) mine
  each_snoc K [] a mine others (suc j) b e = absurd (some-ne-none b (sym e))
  each_snoc K (x ∷ xs) a mine others zero b e = others zero b e
  each_snoc K (x ∷ xs) a mine others (suc j) b e = each_snoc (λ i. K (suc i)) xs a mine (λ i c t. others (suc i) c t) j b e

-- a number that is given a further value
abbrev given_to : (ℕ → ℕ) → ℕ → ℕ → ℕ → ℕ
given_to seat next id c = cond (c == next) id (seat c)

given_before : (seat : ℕ → ℕ) (next id c : ℕ) → c ≢ next → given_to seat next id c ≡ seat c
given_before seat next id c e = rw (ne_eqb c next e) refl

given_now : (seat : ℕ → ℕ) (next id : ℕ) → given_to seat next id next ≡ id
given_now seat next id = rw (eq-eqb next next refl) refl

-- the pass that speaks for a sender once one pass has taken another in
abbrev taken_in : (ℕ → ℕ) → ℕ → ℕ → ℕ → ℕ
taken_in seat id other c = cond (seat c == other) id (seat c)

taken_from : (seat : ℕ → ℕ) (id other c : ℕ) → seat c ≡ other → taken_in seat id other c ≡ id
taken_from seat id other c e = rw (eq-eqb (seat c) other e) refl

not_taken : (seat : ℕ → ℕ) (id other c j : ℕ) → seat c ≡ j → j ≢ other → taken_in seat id other c ≡ j
not_taken seat id other c j e apart = rw (ne_eqb (seat c) other (λ h. apart (sym e ∙ h))) e

pub items_of-append : (k : ℕ) (xs ys : List Item) → items_of k (xs ++ ys) ≡ items_of k xs ++ items_of k ys
items_of-append k xs ys = filter-append (λ x. x.from == k) xs ys

pub marks-append : (xs ys : List Item) → marks (xs ++ ys) ≡ marks xs + marks ys
marks-append [] ys = omega arith
marks-append (x ∷ xs) ys = let h = marks-append xs ys in omega arith

-- one item more, of this sender or of another
his_more : (k : ℕ) (all : List Item) (x : Item) → x.from ≡ k → items_of k (all ++ x ∷ []) ≡ items_of k all ++ x ∷ []
his_more k all x his =
    let one : items_of k (x ∷ []) ≡ x ∷ [] = rw (eq-eqb x.from k his) refl in
    items_of-append k all (x ∷ []) ∙ ap (λ (ys : List Item). items_of k all ++ ys) one

others_same : (k : ℕ) (all : List Item) (x : Item) → x.from ≢ k → items_of k (all ++ x ∷ []) ≡ items_of k all
others_same k all x other =
    let none : items_of k (x ∷ []) ≡ [] = rw (ne_eqb x.from k other) refl in
    items_of-append k all (x ∷ []) ∙ (ap (λ (ys : List Item). items_of k all ++ ys) none ∙ append-nil (items_of k all))

ends_snoc : (ys : List Item) (x : Item) → EndsLast ys → marks ys ≡ 0 → EndsLast (ys ++ x ∷ [])
ends_snoc [] x ends none = ((λ _. refl), tt)
ends_snoc (y ∷ ys) x ends none = ((λ mark. absurd (no_mark mark)), ends_snoc ys x ends.1 (rest (is_mark y) none))
  where
    rest : (b : Bool) → cond b 1 0 + marks ys ≡ 0 → marks ys ≡ 0
    rest true e = absurd (omega arith)
    rest false e = omega arith

    no_mark : is_mark y ≡ true → ⊥
    no_mark mark = let e : 1 + marks ys ≡ 0 = rw mark at none in omega arith

ends_more : (k : ℕ) (all : List Item) (x : Item) → EndsLast (items_of k all) → (x.from ≡ k → marks (items_of k all) ≡ 0) → EndsLast (items_of k (all ++ x ∷ []))
ends_more k all x ends none =
    dite (ℕ_discrete x.from k)
    (λ his. subst EndsLast (sym (his_more k all x his)) (ends_snoc (items_of k all) x ends (none his)))
    (λ other. subst EndsLast (sym (others_same k all x other)) ends)

-- the queue as it is made
pub begins : IsPosted [] (at_home 0 [] [] ∷ [])
begins = record {
  senders = 0;
  popped = [];
  home = 0;
  seat = λ _. 0;
  ends = λ k. tt;
  few = λ k le. refl;
  each = each_snoc (λ port v. Knows 0 [] [] 0 (λ _. 0) port v) [] (at_home 0 [] [])
      (record { homes = λ _. (refl, refl, refl); sends = λ s here. absurd (none_in_empty s here) })
      (λ j v e. absurd (some-ne-none v (sym e)));
}

-- a push by a sender that has pushed no mark
pub pushes_kept : (n port from : ℕ) (pushed : List Item) (v : Hand) (x : Item) → v ≡ sending from pushed → x.from ≡ from → marks pushed ≡ 0
    → Pushes IsPosted n port v x (λ w. w ≡ sending x.from (first_items v.pushed ++ x ∷ []))
pushes_kept n port from pushed v x is his open_ items views room p at =
    let all : List Item = p.popped ++ items in
    let all_is : p.popped ++ (items ++ x ∷ []) ≡ all ++ x ∷ [] = sym (append_assoc p.popped items (x ∷ [])) in
    let mine = p.each port v at in
    let one : Sent = record { from = from; items = pushed } in
    let known = mine.sends one (subst (λ (h : Hand). Contains h.pushed one) (sym is) (Contains-head one [])) in
    let was : first_items v.pushed ≡ pushed = ap (λ (h : Hand). first_items h.pushed) is in
    let w : Hand = sending x.from (first_items v.pushed ++ x ∷ []) in
    let K : ℕ → Hand → Type 0 = Knows p.senders p.popped (p.popped ++ (items ++ x ∷ [])) p.home p.seat in
    let told : first_items v.pushed ++ x ∷ [] ≡ items_of x.from (p.popped ++ (items ++ x ∷ [])) =
    ap (λ (ys : List Item). ys ++ x ∷ []) (was ∙ (known.2 ∙ ap (λ (k : ℕ). items_of k all) (sym his)))
    ∙ (sym (his_more x.from all x refl) ∙ ap (items_of x.from) (sym all_is)) in (
      w,
      record {
        senders = p.senders;
        popped = p.popped;
        home = p.home;
        seat = p.seat;
        ends = λ k. subst (λ (xs : List Item). EndsLast (items_of k xs)) (sym all_is)
            (ends_more k all x (p.ends k) (λ same. ap marks (ap (λ (c : ℕ). items_of c all) (sym same ∙ his) ∙ sym known.2) ∙ open_));
        few = λ k le. ap (items_of k) all_is ∙ (others_same k all x (λ same. let low = known.0 in omega arith) ∙ p.few k le);
        each = each_set K views port w
            record {
              homes = λ e. absurd (cc e);
              sends = λ s here. subst (λ (t : Sent). (t.from < p.senders) × (p.seat t.from ≡ port) × (t.items ≡ items_of t.from (p.popped ++ (items ++ x ∷ [])))) (in_one (record { from = x.from; items = first_items v.pushed ++ x ∷ [] }) s here)
                  ((let low = known.0 in omega arith), ap p.seat his ∙ known.1, told);
            }
            (λ j u other there. let o = p.each j u there in record {
              homes = o.homes;
              sends = λ s here. let t = o.sends s here in (
                t.0,
                t.1,
                t.2 ∙ (sym (others_same s.from all x (λ same. other (sym t.1 ∙ (ap p.seat (sym same ∙ his) ∙ known.1)))) ∙ ap (items_of s.from) (sym all_is)),
              );
            });
      },
      refl,
    )

-- a pop by the receiver
pub pops_kept : (port n : ℕ) (popped : List Item) (known : List Sent) (v : Hand) → v ≡ at_home n popped known
    → Pops IsPosted port v (λ x w. w ≡ at_home v.senders (v.popped ++ x ∷ []) v.pushed)
pops_kept port n popped known v is x items views p at =
    let all_is : (p.popped ++ x ∷ []) ++ items ≡ p.popped ++ (x ∷ items) = append_assoc p.popped (x ∷ []) items in
    let mine = p.each port v at in
    let home = mine.homes (ap (λ (h : Hand). h.home) is) in
    let w : Hand = at_home v.senders (v.popped ++ x ∷ []) v.pushed in
    let K : ℕ → Hand → Type 0 = Knows p.senders (p.popped ++ x ∷ []) ((p.popped ++ x ∷ []) ++ items) p.home p.seat in (
      w,
      record {
        senders = p.senders;
        popped = p.popped ++ x ∷ [];
        home = p.home;
        seat = p.seat;
        ends = λ k. subst (λ (xs : List Item). EndsLast (items_of k xs)) (sym all_is) (p.ends k);
        few = λ k le. ap (items_of k) all_is ∙ p.few k le;
        each = each_set K views port w
            record {
              homes = λ _. (home.0, home.1, ap (λ (xs : List Item). xs ++ x ∷ []) home.2);
              sends = λ s here. let t = mine.sends s here in (t.0, t.1, t.2 ∙ ap (items_of s.from) (sym all_is));
            }
            (λ j u other there. let o = p.each j u there in record {
              homes = λ h. absurd (other ((o.homes h).0 ∙ sym home.0));
              sends = λ s here. let t = o.sends s here in (t.0, t.1, t.2 ∙ ap (items_of s.from) (sym all_is));
            });
      },
      refl,
    )

-- the receiver makes a sender
pub forks_kept : (port n : ℕ) (popped : List Item) (known : List Sent) (v : Hand) → v ≡ at_home n popped known
    → Forks IsPosted port v (at_home (v.senders + 1) v.popped v.pushed) (sending v.senders [])
forks_kept port n popped known v is items views p at =
    let all : List Item = p.popped ++ items in
    let mine = p.each port v at in
    let home = mine.homes (ap (λ (h : Hand). h.home) is) in
    let new = length views in
    let left : Hand = at_home (v.senders + 1) v.popped v.pushed in
    let wide : length (set views port left) ≡ new = length-set views port left in
    let seat' : ℕ → ℕ = given_to p.seat p.senders new in
    let K : ℕ → Hand → Type 0 = Knows (p.senders + 1) p.popped all p.home seat' in
    let still : (j : ℕ) (s : Sent) → (s.from < p.senders) × (p.seat s.from ≡ j) × (s.items ≡ items_of s.from all) → (s.from < p.senders + 1) × (seat' s.from ≡ j) × (s.items ≡ items_of s.from all) =
    (λ j s t. let low = t.0 in (omega arith, given_before p.seat p.senders new s.from (λ e. omega arith) ∙ t.1, t.2)) in
    record {
      senders = p.senders + 1;
      popped = p.popped;
      home = p.home;
      seat = seat';
      ends = p.ends;
      few = λ k le. p.few k (omega arith);
      each = each_snoc K (set views port left) (sending v.senders [])
          record {
            homes = λ e. absurd (cc e);
            sends = λ s here. subst (λ (t : Sent). (t.from < p.senders + 1) × (seat' t.from ≡ length (set views port left)) × (t.items ≡ items_of t.from all)) (in_one (record { from = v.senders; items = [] }) s here)
                ((let e = home.1 in omega arith), ap seat' home.1 ∙ (given_now p.seat p.senders new ∙ sym wide), sym (p.few v.senders (let e = home.1 in omega arith)));
          }
          (each_set K views port left
          record {
            homes = λ _. (home.0, ap (λ (k : ℕ). k + 1) home.1, home.2);
            sends = λ s here. still port s (mine.sends s here);
          }
          (λ j u other there. let o = p.each j u there in record {
            homes = λ h. absurd (other ((o.homes h).0 ∙ sym home.0));
            sends = λ s here. still j s (o.sends s here);
          }));
    }

-- the receiver takes a sender in
pub merges_kept : (port n : ℕ) (popped : List Item) (known : List Sent) (v : Hand) (other : ℕ) (u : Hand) → v ≡ at_home n popped known
    → Merges IsPosted port v other u (at_home v.senders v.popped (v.pushed ++ u.pushed)) spent
merges_kept port n popped known v other u is items views p at apart there =
    let all : List Item = p.popped ++ items in
    let mine = p.each port v at in
    let home = mine.homes (ap (λ (h : Hand). h.home) is) in
    let both : Hand = at_home v.senders v.popped (v.pushed ++ u.pushed) in
    let there' : get_elem? views other ≡ some u = sym (set_else views port other both apart) ∙ there in
    let theirs = p.each other u there' in
    let seat' : ℕ → ℕ = taken_in p.seat port other in
    let K : ℕ → Hand → Type 0 = Knows p.senders p.popped all p.home seat' in
    let joined : K port both = record {
      homes = λ _. home;
      sends = λ s here. ⊎_elim
          (λ (i : Contains v.pushed s). let t = mine.sends s i in (t.0, not_taken p.seat port other s.from port t.1 (λ e. apart (sym e)), t.2))
          (λ (i : Contains u.pushed s). let t = theirs.sends s i in (t.0, taken_from p.seat port other s.from t.1, t.2))
          (Contains-append_cases v.pushed u.pushed s here);
    } in
    record {
      senders = p.senders;
      popped = p.popped;
      home = p.home;
      seat = seat';
      ends = p.ends;
      few = p.few;
      each = each_set K (set views port both) other spent
          record { homes = λ e. absurd (cc e); sends = λ s here. absurd (none_in_empty s here) }
          (λ j w not_other here. each_set (λ i y. i ≢ other → K i y) views port both (λ _. joined)
          (λ i y not_port here' not_other'. let o = p.each i y here' in record {
            homes = o.homes;
            sends = λ s in_it. let t = o.sends s in_it in (t.0, not_taken p.seat port other s.from i t.1 not_other', t.2);
          })
          j w here not_other);
    }

-- what a push learns where the queue is full
pub rest_learned : (port : ℕ) (v : Hand) → Learns IsPosted port v (λ items. HoldsRest v.pushed items)
rest_learned port v items views p at = (p.popped, λ s here. ((p.each port v at).sends s here).2)

-- what the receiver learns
pub told_home : (port n : ℕ) (popped : List Item) (known : List Sent) (v : Hand) → v ≡ at_home n popped known → Learns IsPosted port v (λ items. Tells v items)
told_home port n popped known v is items views p at =
    let mine = p.each port v at in
    let home = mine.homes (ap (λ (h : Hand). h.home) is) in
    let all_is : v.popped ++ items ≡ p.popped ++ items = ap (λ (xs : List Item). xs ++ items) home.2 in
    record {
      ends = λ k. subst (λ (xs : List Item). EndsLast (items_of k xs)) (sym all_is) (p.ends k);
      few = λ k le. ap (items_of k) all_is ∙ p.few k (let e = home.1 in omega arith);
      known = λ s here. (mine.sends s here).2 ∙ ap (items_of s.from) (sym all_is);
    }
