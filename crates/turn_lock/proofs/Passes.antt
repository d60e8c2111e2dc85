-- What a pass knows before and after its calls.
use Rattle.std.proofs.Common.{◌≡◌, ℕ, zero, suc, ◌-◌, ◌<◌, map, true, List, [], ◌∷◌, ◌++◌, length, Some, None, Option, refl, sym, ap, ◌∙◌, subst, ⊎_elim, arith, append_assoc, length-drop}
use Rattle.std.proofs.lemmas.List.Elements.{Contains-append_left, Contains-append_right}
use Rattle.std.specs.Prelude.{All, Contains, slice_index_or, unwrap_or}
use Rattle.std.specs.List.{range_with_len}
use Rattle.atomic_table.specs.Table.{Me}
use Rattle.atomic_table.specs.Seated.{TableId}
use Rattle.atomic_table.specs.declared.shared.Seat.{Seat}
use Rattle.turn_lock.specs.Seen.{Origin, Lock, Caller, resting}
use Rattle.turn_lock.specs.Stories.{entries_by, after, Begins}
use Rattle.turn_lock.specs.declared.view.Role.{Role}
use Rattle.turn_lock.specs.declared.view.Role.TheVariants.{Spent, Rests, Turns}
use Rattle.turn_lock.specs.declared.view.View.{View}
use Rattle.turn_lock.specs.Seats.{view, both, made_more, grown, ended, SpeaksFor, IsSeatFor, IsSeatOfAll, Took, Brings, IsBack, is_at_turn, made_by, Stands, IsPass}
use Rattle.turn_lock.proofs.Lists.{one_in, in_cons, cons_in, after_whole, all_middle, all_cons, all_map}

-- what a seat has in hand is one value
pub same_hand : {T : Type 0} (x y : T) → ◌≡◌ {A = List (ℕ × Option T)} ((0, Some x) ∷ []) ((0, Some y) ∷ []) → x ≡ y
same_hand {T} x y e = ap (λ (l : List (ℕ × Option T)). unwrap_or (slice_index_or l 0 (0, None)).1 x) e

pub turns_if : (r : Role) → is_at_turn r ≡ true → r ≡ Turns
turns_if Spent e = absurd cc
turns_if Rests e = absurd cc
turns_if Turns e = refl

module _ {T E : Type 0} (origin : T → Origin) (story : T → List E) (caller : E → ℕ) where
  -- what follows in the story of a value that was taken has no entry of the pass
  pub took_others : (number entries : ℕ) (m n : Me (Option T) (View E)) (x y : T) → IsPass number entries m → Took origin story caller m x n → n.1 ≡ (0, Some y) ∷ []
      → entries_by caller number (after m.0.seen (story y)) ≡ []
  took_others number entries m n x y pass took hand =
      let x_is : x ≡ y = same_hand x y (sym took.hand ∙ hand) in
      subst (λ (z : T). entries_by caller number (after m.0.seen (story z)) ≡ []) x_is (took.others (number, made_by m.0.callers) (one_in m.0.callers (number, made_by m.0.callers) pass.one))

  module _ (number entries : ℕ) (m : Me (Option T) (View E)) (pass : IsPass number entries m) (turns : is_at_turn m.0.role ≡ true) (value : T) (begins : Begins m.0.seen (story value)) where
    at_turn : (m.1 ≡ (0, None) ∷ []) × (entries ≡ length m.0.seen)
    at_turn = let P : Role → Type 0 = Stands entries m in subst P (turns_if m.0.role turns) pass.stands

    abbrev new : List E
    new = after m.0.seen (story value)

    whole : m.0.seen ++ new ≡ story value
    whole = ap (λ (es : List E). m.0.seen ++ es) (after_whole m.0.seen begins.0 (story value) begins.1) ∙ begins.1

    -- the entries that a value brings when it is given back
    pub brings : (total : ℕ) → All (λ e. caller e ≡ number) new → total ≡ length (story value) → Brings origin story caller value new m (total - entries)
    brings total his long = record {
      number = number;
      made = made_by m.0.callers;
      turns = turns_if m.0.role turns;
      out = at_turn.0;
      one = pass.one;
      grew = whole;
      his = his;
      many = (λ i. long i - at_turn.1 i) ∙ sym (length-drop (length m.0.seen) (story value));
    }

    -- the seat once they are counted, while the value is out
    abbrev counted : Me (Option T) (View E)
    counted = (view Turns m.0.next ((number, made_by m.0.callers ++ new) ∷ []) m.0.origin (story value) m.0.heard, (0, None) ∷ [])

    pub counted_is : (q : Me (Option T) (View E)) → q ≡ grown new m → q ≡ counted
    counted_is q is = is ∙ (λ i. (view Turns m.0.next (made_more (pass.one i) new) m.0.origin (whole i) m.0.heard, at_turn.0 i))

    pub hand_of : (q : Me (Option T) (View E)) → q ≡ grown new m → q.1 ≡ (0, None) ∷ []
    hand_of q is = ap (λ (z : Me (Option T) (View E)). z.1) (counted_is q is)

    -- and once the value is back
    pub is_back : (q p : Me (Option T) (View E)) → q ≡ grown new m → p ≡ (q.0, (0, Some value) ∷ []) → origin value ≡ m.0.origin → IsBack origin story caller p
    is_back q p is back same =
        let all : p ≡ (counted.0, (0, Some value) ∷ []) = back ∙ (λ i. ((counted_is q is i).0, (0, Some value) ∷ [])) in
        let P : Me (Option T) (View E) → Type 0 = IsBack origin story caller in
        subst P (sym all) record { value = value; turns = refl; hand = refl; told = refl; same = same }

    -- and once the turn is over
    abbrev rested : Me (Option T) (View E)
    rested = (view Rests m.0.next ((number, made_by m.0.callers ++ new) ∷ []) m.0.origin (story value) m.0.heard, [])

    pub rested_is : (q p n : Me (Option T) (View E)) → q ≡ grown new m → p ≡ (q.0, (0, Some value) ∷ []) → n ≡ ended p → n ≡ rested
    rested_is q p n is back ends = ends ∙ (ap ended back ∙ (λ i. ended ((counted_is q is i).0, (0, Some value) ∷ [])))

    pub rests_again : (n : Me (Option T) (View E)) (entries' : ℕ) → n ≡ rested → IsPass number entries' n
    rests_again n entries' is = let P : Me (Option T) (View E) → Type 0 = IsPass number entries' in subst P (sym is) record { one = refl; stands = refl }

    pub gave : (z z' : TableId) (n : Me (Option T) (View E)) → z' ≡ z → n ≡ rested
        → record { lock = z'; number = number; holds = is_at_turn n.0.role; origin = n.0.origin; seen = n.0.seen; made = made_by n.0.callers }
        ≡ resting record { lock = z; number = number; holds = is_at_turn m.0.role; origin = m.0.origin; seen = m.0.seen; made = made_by m.0.callers } (story value)
    gave z z' n same is = λ i. record { lock = same i; number = number; holds = is_at_turn (is i).0.role; origin = (is i).0.origin; seen = (is i).0.seen; made = made_by (is i).0.callers }

module _ {E : Type 0} where
  -- a view still speaks for a pass once it has taken another view in
  pub speaks_both : (v w : View E) (p : Caller E) → SpeaksFor v p → SpeaksFor (both v w) p
  speaks_both v w p h = (
    Contains-append_left v.callers w.callers (p.number, p.made) h.0,
    cons_in (both v w).seen (both v w).heard p.seen (⊎_elim
        (λ (e : v.seen ≡ p.seen). subst (Contains (both v w).heard) e (0, omega arith, refl))
        (λ (i : Contains v.heard p.seen). cons_in v.seen (w.seen ∷ (v.heard ++ w.heard)) p.seen (cons_in w.seen (v.heard ++ w.heard) p.seen (Contains-append_left v.heard w.heard p.seen i)))
        (in_cons v.seen v.heard p.seen h.1)),
  )

  -- and for the passes of the other view
  pub speaks_too : (v w : View E) (p : Caller E) → w.callers ≡ (p.number, p.made) ∷ [] → w.seen ≡ p.seen → SpeaksFor (both v w) p
  speaks_too v w p one same = (
    Contains-append_right v.callers w.callers (p.number, p.made) (one_in w.callers (p.number, p.made) one),
    subst (Contains ((both v w).seen ∷ (both v w).heard)) same (cons_in (both v w).seen (both v w).heard w.seen (cons_in v.seen (w.seen ∷ (v.heard ++ w.heard)) w.seen (0, omega arith, refl))),
  )

  -- the passes that are left and those that are done, once one more is taken
  pub popped : (all left left' done : List (Caller E)) (p : Caller E) → all ≡ left ++ done → left ≡ left' ++ p ∷ [] → all ≡ left' ++ p ∷ done
  popped all left left' done p whole last = whole ∙ (ap (λ ps. ps ++ done) last ∙ append_assoc left' (p ∷ []) done)

  -- what holds of all passes holds of the one that was taken from the end of those that are left
  pub of_popped : (P : Caller E → Type 0) (all left left' done : List (Caller E)) (p : Caller E) → all ≡ left ++ done → left ≡ left' ++ p ∷ [] → All P all → P p
  of_popped P all left left' done p whole last h = all_middle P left' done p (subst (All P) (popped all left left' done p whole last) h)

module _ {A : Type 0} where
  -- a list with one element before the others
  pub all_numbered : (f : ℕ → A) (n : ℕ) (xs : List A) → 0 < n → xs ≡ map f (range_with_len 1 (n - 1)) → f 0 ∷ xs ≡ map f (range_with_len 0 n)
  all_numbered f zero xs some_ e = absurd (omega arith)
  all_numbered f (suc n) xs some_ e =
      let one_less : suc n - 1 ≡ n = omega arith in
      ap (λ (ys : List A). f 0 ∷ ys) (e ∙ ap (λ (k : ℕ). map f (range_with_len 1 k)) one_less)

module _ {T E : Type 0} where
  -- a seat that takes in the seat of one pass more speaks for it too
  pub joined : (lock : Lock E) (done : List (Caller E)) (p : Caller E) (s other t : Seat (Option T) (View E)) → IsSeatOfAll lock done s → IsSeatFor p other
      → t.table_id ≡ s.table_id → t.me ≡ (both s.me.0 other.me.0, s.me.1) → IsSeatOfAll lock (p ∷ done) t
  joined lock done p s other t h his same me =
      let speaks : All (SpeaksFor (both s.me.0 other.me.0)) (p ∷ done) =
      all_cons (SpeaksFor (both s.me.0 other.me.0)) p done (speaks_too s.me.0 other.me.0 p his.3 his.4)
      (all_map (SpeaksFor s.me.0) (SpeaksFor (both s.me.0 other.me.0)) done (speaks_both s.me.0 other.me.0) h.speaks) in
      record {
        table = same ∙ h.table;
        rests = ap (λ (m : Me (Option T) (View E)). m.0.role) me;
        empty = ap (λ (m : Me (Option T) (View E)). m.1) me ∙ h.empty;
        speaks = (let P : Me (Option T) (View E) → Type 0 = λ m. All (SpeaksFor m.0) (p ∷ done) in subst P (sym me) speaks);
      }
