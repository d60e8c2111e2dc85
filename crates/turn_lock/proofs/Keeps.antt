-- Each kind of step keeps the rule: there is one story.
use Rattle.std.proofs.Common.{◌≡◌, ◌≢◌, ℕ, ◌+◌, ◌%◌, ◌^◌, ◌<◌, ◌==◌, cond, List, [], ◌∷◌, ◌++◌, length, set, Option, Some, refl, sym, ap, ◌∙◌, subst, ⊎_elim, arith, append_assoc, length-append, length-set, eq-eqb, ne_eqb, lit<}
use Rattle.std.specs.Prelude.{All, Contains, slice_index}
use Rattle.std.proofs.lemmas.List.{append-nil}
use Rattle.std.proofs.lemmas.List.Elements.{Contains-append_cases}
use Rattle.std.proofs.Math.Nat.{mod-add-mod}
use mathlib.Core.Option.{none, some, some-ne-none, some-injective}
use mathlib.Core.Option as maybe
use lib.ListN.{get_elem?}
use prog.Atomic.{either}
use Rattle.atomic_table.specs.Table.{State, Me, Act, keeps, takes, gives, put_back, rest, stepped, carried_after, Valid, Allows, Splits, Joins, opening}
use Rattle.atomic_table.proofs.Lists.{set_again, set_else, at_longer}
use Rattle.turn_lock.specs.Seen.{Origin}
use Rattle.turn_lock.specs.Stories.{entries_by, after, Begins, longer}
use Rattle.turn_lock.specs.declared.view.Role.{Role}
use Rattle.turn_lock.specs.declared.view.Role.TheVariants.{Spent, Rests, Turns}
use Rattle.turn_lock.specs.declared.view.View.{View}
use Rattle.turn_lock.specs.TurnRule.{Place, home, out, busy_of, slot_of, IsLive, Speaks, Poses, Knows, Placed, OneStory}
use Rattle.turn_lock.specs.Seats.{next_of, view, spent, first_seat, dealt, newcomer, both, made_more, grown, ended, Took, takes_turn}
use Rattle.turn_lock.proofs.Lists.{at_place, in_one, one_in, each_set, each_snoc, after_whole, longer_cases, longer_begins, in_cons, behind_first, entries_by-append, none_behind, all_his, none_others, all_below}

module _ {T E : Type 0} (origin : T → Origin) (story : T → List E) (caller : E → ℕ) (o : Origin) (first : List E) (all : ℕ) where
  abbrev St : Type 0
  St = State (Option T) (View E)

  abbrev Rule : St → Type 0
  Rule = OneStory origin story caller o first all

  abbrev M : Type 0
  M = Me (Option T) (View E)

  -- a seat's view stands where the value moves, if the seat isn't the one that has it
  poses_elsewhere : (whole : List E) (p q : Place T) (j : ℕ) (v : View E) (role : Role) → (p ≡ out j → q ≡ out j)
      → Poses origin story caller whole p j v role → Poses origin story caller whole q j v role
  poses_elsewhere whole p q j v Spent move h = tt
  poses_elsewhere whole p q j v Rests move h = tt
  poses_elsewhere whole p q j v Turns move h = (move h.0, h.1, h.2)

  knows_elsewhere : (next : ℕ) (seat : ℕ → ℕ) (since : List E) (p q : Place T) (j : ℕ) (v : View E) → (p ≡ out j → q ≡ out j)
      → Knows origin story caller o first next seat since p j v → Knows origin story caller o first next seat since q j v
  knows_elsewhere next seat since p q j v move h = record {
    same = h.same;
    opened = h.opened;
    rest = h.rest;
    begins = h.begins;
    told = h.told;
    speaks = h.speaks;
    deals = h.deals;
    poses = poses_elsewhere (first ++ since) p q j v v.role move h.poses;
  }

  knows_live : (s : St) (r : Rule s) (id : ℕ) (v : View E) (role : Role) → get_elem? s.views id ≡ some v → v.role ≡ role → IsLive role
      → Knows origin story caller o first r.next r.seat r.since r.place id v
  knows_live s r id v role at is live = r.each id v at (subst IsLive (sym is) live)

  -- the value is taken by the seat, which turns
  takes_home : (s : St) (r : Rule s) (id : ℕ) (m : M) (k : ℕ × List E) (x : T) → r.place ≡ home x → m.0.role ≡ Rests → m.1 ≡ [] → m.0.callers ≡ k ∷ [] → get_elem? s.views id ≡ some m.0
      → Rule (stepped s 1 (either (slice_index s.words 1 == 0) 1 (slice_index s.words 1)) id m.1 (view Turns m.0.next m.0.callers m.0.origin (story x) m.0.heard) (takes 0 (Some x)))
      × (Valid s.homes m.1 (takes 0 (Some x)))
      × (slice_index s.words 1 ≡ 0)
      × Took origin story caller m x (view Turns m.0.next m.0.callers m.0.origin (story x) m.0.heard, (0, Some x) ∷ m.1)
  takes_home s r id m k x here rests empty one at =
      let words_is = r.words ∙ ap (λ (p : Place T). length (first ++ r.since) % 2 ^ 64 ∷ busy_of p ∷ []) here in
      let homes_is = r.homes ∙ ap (λ (p : Place T). slot_of p ∷ []) here in
      let placed : (origin x ≡ o) × (story x ≡ first ++ r.since) = subst (Placed origin story caller o (first ++ r.since) s.views) here r.placed in
      let mine = knows_live s r id m.0 Rests at rests tt in
      let w : View E = view Turns m.0.next m.0.callers m.0.origin (story x) m.0.heard in (
        record {
          next = r.next;
          seat = r.seat;
          since = r.since;
          place = out id;
          few = r.few;
          words = ap (λ (ws : List ℕ). set ws 1 (either (slice_index ws 1 == 0) 1 (slice_index ws 1))) words_is;
          homes = ap (λ (hs : List (maybe.Option (Option T))). set hs 0 none) homes_is;
          placed = (w, at_place s.views id m.0 w at, refl);
          each = each_set (λ j v. IsLive v.role → Knows origin story caller o first r.next r.seat r.since (out id) j v) s.views id w
              (λ _. record {
                same = mine.same;
                opened = (r.since, sym placed.1);
                rest = [];
                begins = append-nil (story x) ∙ placed.1;
                told = mine.told;
                speaks = λ c here. let old = mine.speaks c here in record { given = old.given; here = old.here; kept = old.kept; seen = refl };
                deals = mine.deals;
                poses = (refl, placed.1, (k, one));
              })
              (λ j v other there live. knows_elsewhere r.next r.seat r.since r.place (out id) j v (λ is. let no : home x ≡ out j = sym here ∙ is in absurd cc) (r.each j v there live));
          strangers = r.strangers;
        },
        ap (λ (hs : List (maybe.Option (Option T))). get_elem? hs 0) homes_is,
        ap (λ (ws : List ℕ). slice_index ws 1) words_is,
        record {
          hand = ap (λ (c : List (ℕ × Option T)). (0, Some x) ∷ c) empty;
          origin_is = placed.0 ∙ sym mine.same;
          begins = (mine.rest, mine.begins ∙ sym placed.1);
          others = λ c here. ap (entries_by caller c.0) (after_whole m.0.seen mine.rest (story x) (mine.begins ∙ sym placed.1)) ∙ (mine.speaks c here).seen;
          now = refl;
        },
      )

  -- a step that changes nothing
  nothing_changes : (s : St) (id i x : ℕ) (v : View E) → set s.words i x ≡ s.words → get_elem? s.views id ≡ some v → Rule s → Rule record { words = set s.words i x; homes = s.homes; views = set s.views id v }
  nothing_changes s id i x v same at = subst Rule (λ j. record { words = sym same j; homes = s.homes; views = sym (set_again s.views id v at) j })

  takes_by : (s : St) (r : Rule s) (id : ℕ) (m : M) (k : ℕ × List E) (p : Place T) → r.place ≡ p → m.0.role ≡ Rests → m.1 ≡ [] → m.0.callers ≡ k ∷ [] → get_elem? s.views id ≡ some m.0
      → (w : View E) × (a : Act (Option T)) × Valid s.homes m.1 a × Rule (stepped s 1 (either (slice_index s.words 1 == 0) 1 (slice_index s.words 1)) id m.1 w a)
      × (slice_index s.words 1 ≡ 0 → (x : T) × Took origin story caller m x (w, carried_after m.1 a)) × (slice_index s.words 1 ≢ 0 → (w, carried_after m.1 a) ≡ m)
  takes_by s r id m k (home x) is rests empty one at =
      let t = takes_home s r id m k x is rests empty one at in
      (view Turns m.0.next m.0.callers m.0.origin (story x) m.0.heard, takes 0 (Some x), t.1, t.0, (λ _. (x, t.3)), λ busy. absurd (busy t.2))
  takes_by s r id m k (out h) is rests empty one at =
      let words_is = r.words ∙ ap (λ (p : Place T). length (first ++ r.since) % 2 ^ 64 ∷ busy_of p ∷ []) is in
      let busy : slice_index s.words 1 ≡ 1 = ap (λ (ws : List ℕ). slice_index ws 1) words_is in (
        m.0,
        keeps,
        tt,
        nothing_changes s id 1 (either (slice_index s.words 1 == 0) 1 (slice_index s.words 1)) m.0
            (ap (λ (ws : List ℕ). set ws 1 (either (slice_index ws 1 == 0) 1 (slice_index ws 1))) words_is ∙ sym words_is) at r,
        (λ free. absurd (omega arith)),
        λ _. refl,
      )

  -- exchange of busy from 0 to 1: a seat at rest takes the slot and turns, or nothing changes
  pub turns_kept : (slots id : ℕ) (m : M) (k : ℕ × List E) → m.0.role ≡ Rests → m.1 ≡ [] → m.0.callers ≡ k ∷ []
      → Allows Rule slots id m 1 (λ n. either (n == 0) 1 n) (takes_turn origin story caller m)
  turns_kept slots id m k rests empty one s r deep at small =
      let t = takes_by s r id m k r.place refl rests empty one at in (t.0, t.1, t.2, t.3, (t.4, t.5))

  -- other seats stand where the story grows by entries of a caller who doesn't speak through them
  poses_longer : (whole longer : List E) (p : Place T) (id j : ℕ) (v : View E) (role : Role) → p ≡ out id → j ≢ id
      → Poses origin story caller whole p j v role → Poses origin story caller longer (out id) j v role
  poses_longer whole longer p id j v Spent is other h = tt
  poses_longer whole longer p id j v Rests is other h = tt
  poses_longer whole longer p id j v Turns is other h = let same : out id ≡ out j = sym is ∙ h.0 in absurd (other (cc same))

  more_kept : (c : ℕ) (since added made : List E) → entries_by caller c since ≡ made → entries_by caller c added ≡ [] → entries_by caller c (since ++ added) ≡ made
  more_kept c since added made kept nothing = entries_by-append caller c since added ∙ (ap (λ (es : List E). es ++ entries_by caller c added) kept ∙ (ap (λ (es : List E). made ++ es) nothing ∙ append-nil made))

  knows_longer : (next : ℕ) (seat : ℕ → ℕ) (since added : List E) (p : Place T) (id j : ℕ) (v : View E) (c : ℕ) → p ≡ out id → j ≢ id → seat c ≡ id → All (λ e. caller e ≡ c) added
      → Knows origin story caller o first next seat since p j v → Knows origin story caller o first next seat (since ++ added) (out id) j v
  knows_longer next seat since added p id j v c is other mine his h = record {
    same = h.same;
    opened = h.opened;
    rest = h.rest ++ added;
    begins = sym (append_assoc v.seen h.rest added) ∙ (ap (λ (es : List E). es ++ added) h.begins ∙ append_assoc first since added);
    told = λ story here. longer_begins story (first ++ since) added (first ++ (since ++ added)) (append_assoc first since added) (h.told story here);
    speaks = λ k here.
        let old = h.speaks k here in
        let nothing : entries_by caller k.0 added ≡ [] = none_others caller c k.0 added his (λ e. other (sym old.here ∙ (ap seat e ∙ mine))) in
        record { given = old.given; here = old.here; kept = more_kept k.0 since added k.1 old.kept nothing; seen = more_kept k.0 h.rest added [] old.seen nothing };
    deals = h.deals;
    poses = poses_longer (first ++ since) (first ++ (since ++ added)) p id j v v.role is other h.poses;
  }

  -- an add of the number of new entries to the count: the story has these entries too
  pub count_kept : (slots id : ℕ) (m : M) (c : ℕ) (made added : List E) (k : ℕ) → m.0.role ≡ Turns → m.0.callers ≡ (c, made) ∷ []
      → All (λ e. caller e ≡ c) added → k ≡ length added
      → Allows Rule slots id m 0 (λ n. (n + k) % 2 ^ 64) (λ _ n. n ≡ grown added m)
  count_kept slots id m c made added k turns one his many s r deep at small =
      let mine = knows_live s r id m.0 Turns at turns tt in
      let poses : Poses origin story caller (first ++ r.since) r.place id m.0 Turns = subst (Poses origin story caller (first ++ r.since) r.place id m.0) turns mine.poses in
      let w : View E = (grown added m).0 in
      let callers_are : w.callers ≡ (c, made ++ added) ∷ [] = ap (λ (cs : List (ℕ × List E)). made_more cs added) one in
      let old = mine.speaks (c, made) (one_in m.0.callers (c, made) one) in
      let whole : m.0.seen ++ added ≡ first ++ (r.since ++ added) = ap (λ (es : List E). es ++ added) poses.1 ∙ append_assoc first r.since added in
      let words_is = r.words ∙ ap (λ (p : Place T). length (first ++ r.since) % 2 ^ 64 ∷ busy_of p ∷ []) poses.0 in
      let long : length (first ++ (r.since ++ added)) ≡ length (first ++ r.since) + k = ap (λ (es : List E). length es) (sym (append_assoc first r.since added)) ∙ (length-append (first ++ r.since) added ∙ ap (λ (n : ℕ). length (first ++ r.since) + n) (sym many)) in (
        w,
        keeps,
        tt,
        record {
          next = r.next;
          seat = r.seat;
          since = r.since ++ added;
          place = out id;
          few = r.few;
          words = ap (λ (ws : List ℕ). set ws 0 ((slice_index ws 0 + k) % 2 ^ 64)) words_is
              ∙ (ap (λ (n : ℕ). n ∷ 1 ∷ []) (mod-add-mod (length (first ++ r.since)) (2 ^ 64) k ∙ ap (λ (n : ℕ). n % 2 ^ 64) (sym long)));
          homes = r.homes ∙ ap (λ (p : Place T). slot_of p ∷ []) poses.0;
          placed = (w, at_place s.views id m.0 w at, refl);
          each = each_set (λ j v. IsLive v.role → Knows origin story caller o first r.next r.seat (r.since ++ added) (out id) j v) s.views id w
              (λ _. record {
                same = mine.same;
                opened = (r.since ++ added, sym whole);
                rest = [];
                begins = append-nil (m.0.seen ++ added) ∙ whole;
                told = λ es here. longer_begins es (first ++ r.since) added (first ++ (r.since ++ added)) (append_assoc first r.since added) (mine.told es here);
                speaks = λ d here. subst (Speaks origin story caller r.next r.seat (r.since ++ added) [] id)
                    (in_one (c, made ++ added) d (subst (λ (cs : List (ℕ × List E)). Contains cs d) callers_are here)) record {
                      given = old.given;
                      here = old.here;
                      kept = entries_by-append caller c r.since added ∙ (ap (λ (es : List E). es ++ entries_by caller c added) old.kept ∙ ap (λ (es : List E). made ++ es) (all_his caller c added his));
                      seen = refl;
                    };
                deals = mine.deals;
                poses = (refl, whole, ((c, made ++ added), callers_are));
              })
              (λ j v other there live. knows_longer r.next r.seat r.since added r.place id j v c poses.0 other old.here his (r.each j v there live));
          strangers = λ d far. more_kept d r.since added [] (r.strangers d far) (none_others caller c d added his (λ e. let g = old.given in omega arith));
        },
        refl,
      )

  -- swap of busy to 0: the value is at home again
  pub end_kept : (slots id : ℕ) (m : M) (x : T) → m.0.role ≡ Turns → m.1 ≡ (0, Some x) ∷ [] → story x ≡ m.0.seen → origin x ≡ m.0.origin
      → Allows Rule slots id m 1 (λ _. 0) (λ _ n. n ≡ ended m)
  end_kept slots id m x turns hand told same s r deep at small =
      let mine = knows_live s r id m.0 Turns at turns tt in
      let poses : Poses origin story caller (first ++ r.since) r.place id m.0 Turns = subst (Poses origin story caller (first ++ r.since) r.place id m.0) turns mine.poses in
      let w : View E = (ended m).0 in
      let words_is = r.words ∙ ap (λ (p : Place T). length (first ++ r.since) % 2 ^ 64 ∷ busy_of p ∷ []) poses.0 in
      let homes_is = r.homes ∙ ap (λ (p : Place T). slot_of p ∷ []) poses.0 in (
        w,
        gives,
        tt,
        record {
          next = r.next;
          seat = r.seat;
          since = r.since;
          place = home x;
          few = r.few;
          words = ap (λ (ws : List ℕ). set ws 1 0) words_is;
          homes = ap (put_back s.homes) hand ∙ ap (λ (hs : List (maybe.Option (Option T))). set hs 0 (some (Some x))) homes_is;
          placed = (same ∙ mine.same, told ∙ poses.1);
          each = each_set (λ j v. IsLive v.role → Knows origin story caller o first r.next r.seat r.since (home x) j v) s.views id w
              (λ _. record {
                same = mine.same;
                opened = mine.opened;
                rest = mine.rest;
                begins = mine.begins;
                told = mine.told;
                speaks = mine.speaks;
                deals = mine.deals;
                poses = tt;
              })
              (λ j v other there live. knows_elsewhere r.next r.seat r.since r.place (home x) j v (λ is. let both : out id ≡ out j = sym poses.0 ∙ is in absurd (other (cc both))) (r.each j v there live));
          strangers = r.strangers;
        },
        λ i. (w, rest (hand i)),
      )

  -- the seat that speaks for a caller once a further number is given away
  abbrev given_to : (ℕ → ℕ) → ℕ → ℕ → ℕ → ℕ
  given_to seat next id c = cond (c == next) id (seat c)

  given_before : (seat : ℕ → ℕ) (next id c : ℕ) → c ≢ next → given_to seat next id c ≡ seat c
  given_before seat next id c e = rw (ne_eqb c next e) refl

  given_now : (seat : ℕ → ℕ) (next id : ℕ) → given_to seat next id next ≡ id
  given_now seat next id = rw (eq-eqb next next refl) refl

  speaks_still : (next : ℕ) (seat : ℕ → ℕ) (since behind : List E) (new j : ℕ) (k : ℕ × List E) → Speaks origin story caller next seat since behind j k
      → Speaks origin story caller (next + 1) (given_to seat next new) since behind j k
  speaks_still next seat since behind new j k h =
      let g = h.given in
      let apart : k.0 ≢ next = (λ e. omega arith) in
      record { given = omega arith; here = given_before seat next new k.0 apart ∙ h.here; kept = h.kept; seen = h.seen }

  placed_still : (whole : List E) (views more : List (View E)) (id : ℕ) (v w : View E) (p : Place T) → get_elem? views id ≡ some v → v.role ≢ Turns → Placed origin story caller o whole views p
      → Placed origin story caller o whole (set views id w ++ more) p
  placed_still whole views more id v w (home x) at other h = h
  placed_still whole views more id v w (out j) at other h =
      let apart : j ≢ id = (λ e. other (ap (λ (u : View E). u.role) (some-injective v h.0 (sym at ∙ (ap (get_elem? views) (sym e) ∙ h.1))) ∙ h.2)) in
      (h.0, at_longer (set views id w) more j h.0 (set_else views id j w apart ∙ h.1), h.2)

  -- a split of the first seat: the new seat speaks for the next number
  pub split_kept : (id : ℕ) (v : View E) (n : ℕ) → v.role ≡ Rests → v.next ≡ Some n → n < all → Splits Rule id v (dealt v) (newcomer v)
  split_kept id v n rests deals few s r at =
      let mine = knows_live s r id v Rests at rests tt in
      let first_is = mine.deals n deals in
      let next_is : next_of v.next ≡ r.next = ap next_of deals ∙ first_is.1 in
      let new = length s.views in
      let wide : length (set s.views id (dealt v)) ≡ new = length-set s.views id (dealt v) in
      let behind = behind_first first v.seen mine.rest r.since mine.opened mine.begins in
      let K : ℕ → View E → Type 0 = λ j u. IsLive u.role → Knows origin story caller o first (r.next + 1) (given_to r.seat r.next new) r.since r.place j u in
      record {
        next = r.next + 1;
        seat = given_to r.seat r.next new;
        since = r.since;
        place = r.place;
        few = (let e = first_is.1 in omega arith);
        words = r.words;
        homes = r.homes;
        placed = placed_still (first ++ r.since) s.views (newcomer v ∷ []) id v (dealt v) r.place at (λ e. let no : Rests ≡ Turns = sym rests ∙ e in absurd cc) r.placed;
        each = each_snoc K (set s.views id (dealt v)) (newcomer v)
            (λ _. record {
              same = mine.same;
              opened = mine.opened;
              rest = mine.rest;
              begins = mine.begins;
              told = λ es here. absurd (let l = here.1 in omega arith);
              speaks = λ k here. subst (Speaks origin story caller (r.next + 1) (given_to r.seat r.next new) r.since mine.rest (length (set s.views id (dealt v)))) (in_one (next_of v.next, []) k here) record {
                given = (let e = next_is in omega arith);
                here = ap (given_to r.seat r.next new) next_is ∙ (given_now r.seat r.next new ∙ sym wide);
                kept = r.strangers (next_of v.next) (let e = next_is in omega arith);
                seen = none_behind caller (next_of v.next) behind.0 mine.rest (ap (entries_by caller (next_of v.next)) behind.1 ∙ r.strangers (next_of v.next) (let e = next_is in omega arith));
              };
              deals = λ m e. absurd (cc e);
              poses = tt;
            })
            (each_set K s.views id (dealt v)
            (λ _. record {
              same = mine.same;
              opened = mine.opened;
              rest = mine.rest;
              begins = mine.begins;
              told = mine.told;
              speaks = λ k here. speaks_still r.next r.seat r.since mine.rest new id k (mine.speaks k here);
              deals = λ m e. let same : next_of v.next + 1 ≡ m = cc e in (first_is.0, (let n' = next_is in omega arith));
              poses = mine.poses;
            })
            (λ j u other there live. let h = r.each j u there live in record {
              same = h.same;
              opened = h.opened;
              rest = h.rest;
              begins = h.begins;
              told = h.told;
              speaks = λ k here. speaks_still r.next r.seat r.since h.rest new j k (h.speaks k here);
              deals = λ m e. absurd (other ((h.deals m e).0 ∙ sym first_is.0));
              poses = h.poses;
            }));
        strangers = λ c far. r.strangers c (omega arith);
      }

  -- the seat that speaks for a caller once one seat has taken another's view in
  abbrev taken_in : (ℕ → ℕ) → ℕ → ℕ → ℕ → ℕ
  taken_in seat id other c = cond (seat c == other) id (seat c)

  taken_from : (seat : ℕ → ℕ) (id other c : ℕ) → seat c ≡ other → taken_in seat id other c ≡ id
  taken_from seat id other c e = rw (eq-eqb (seat c) other e) refl

  not_taken : (seat : ℕ → ℕ) (id other c j : ℕ) → seat c ≡ j → j ≢ other → taken_in seat id other c ≡ j
  not_taken seat id other c j e apart = rw (ne_eqb (seat c) other (λ h. apart (sym e ∙ h))) e

  placed_besides : (whole : List E) (views : List (View E)) (id : ℕ) (v w : View E) (p : Place T) → get_elem? views id ≡ some v → v.role ≢ Turns → Placed origin story caller o whole views p
      → Placed origin story caller o whole (set views id w) p
  placed_besides whole views id v w (home x) at other h = h
  placed_besides whole views id v w (out j) at other h =
      let apart : j ≢ id = (λ e. other (ap (λ (u : View E). u.role) (some-injective v h.0 (sym at ∙ (ap (get_elem? views) (sym e) ∙ h.1))) ∙ h.2)) in
      (h.0, set_else views id j w apart ∙ h.1, h.2)

  heard_both : (first since : List E) (v w : View E) → Begins v.seen (first ++ since) → Begins w.seen (first ++ since)
      → ((es : List E) → Contains v.heard es → Begins es (first ++ since)) → ((es : List E) → Contains w.heard es → Begins es (first ++ since))
      → (es : List E) → Contains (v.seen ∷ w.seen ∷ (v.heard ++ w.heard)) es → Begins es (first ++ since)
  heard_both first since v w one two some_ more es here =
      let B : List E → Type 0 = λ xs. Begins xs (first ++ since) in
      ⊎_elim
      (λ (e : v.seen ≡ es). subst B e one)
      (λ (i : Contains (w.seen ∷ (v.heard ++ w.heard)) es). ⊎_elim
      (λ (e : w.seen ≡ es). subst B e two)
      (λ (j : Contains (v.heard ++ w.heard) es). ⊎_elim (some_ es) (more es) (Contains-append_cases v.heard w.heard es j))
      (in_cons w.seen (v.heard ++ w.heard) es i))
      (in_cons v.seen (w.seen ∷ (v.heard ++ w.heard)) es here)

  -- what two seats know, one of them knows that takes the other's view in
  knows_both : (next : ℕ) (seat : ℕ → ℕ) (since : List E) (p : Place T) (id other : ℕ) (v w : View E) → other ≢ id
      → (h : Knows origin story caller o first next seat since p id v) → (g : Knows origin story caller o first next seat since p other w)
      → (behind : List E) → Begins first (longer v.seen w.seen) → longer v.seen w.seen ++ behind ≡ first ++ since
      → ((c : ℕ) → entries_by caller c h.rest ≡ [] → entries_by caller c behind ≡ []) → ((c : ℕ) → entries_by caller c g.rest ≡ [] → entries_by caller c behind ≡ [])
      → Knows origin story caller o first next (taken_in seat id other) since p id (both v w)
  knows_both next seat since p id other v w apart h g behind opened whole mine theirs = record {
    same = h.same;
    opened = opened;
    rest = behind;
    begins = whole;
    told = heard_both first since v w (h.rest, h.begins) (g.rest, g.begins) h.told g.told;
    speaks = λ k here. ⊎_elim
        (λ (i : Contains v.callers k). let old = h.speaks k i in record { given = old.given; here = not_taken seat id other k.0 id old.here (λ e. apart (sym e)); kept = old.kept; seen = mine k.0 old.seen })
        (λ (i : Contains w.callers k). let old = g.speaks k i in record { given = old.given; here = taken_from seat id other k.0 old.here; kept = old.kept; seen = theirs k.0 old.seen })
        (Contains-append_cases v.callers w.callers k here);
    deals = h.deals;
    poses = tt;
  }

  -- a join of two seats at rest: one speaks for the callers of both
  pub join_kept : (id : ℕ) (v : View E) (other : ℕ) (w : View E) → v.role ≡ Rests → w.role ≡ Rests → Joins Rule id v other w (both v w) spent
  join_kept id v other w rests also s r at apart there =
      let there' : get_elem? s.views other ≡ some w = sym (set_else s.views id other (both v w) apart) ∙ there in
      let h = knows_live s r id v Rests at rests tt in
      let g = knows_live s r other w Rests there' also tt in
      let ends : v.seen ++ h.rest ≡ w.seen ++ g.rest = h.begins ∙ sym g.begins in
      let seat' = taken_in r.seat id other in
      let K : ℕ → View E → Type 0 = λ j u. IsLive u.role → Knows origin story caller o first r.next seat' r.since r.place j u in
      let joined : Knows origin story caller o first r.next seat' r.since r.place id (both v w) =
      ⊎_elim
      (λ (l : (longer v.seen w.seen ≡ w.seen) × ((mid : List E) × (v.seen ++ mid ≡ w.seen) × (h.rest ≡ mid ++ g.rest))).
      knows_both r.next r.seat r.since r.place id other v w apart h g g.rest (subst (Begins first) (sym l.0) g.opened) (ap (λ (es : List E). es ++ g.rest) l.0 ∙ g.begins)
      (λ c nothing. none_behind caller c l.1.0 g.rest (ap (entries_by caller c) (sym l.1.2) ∙ nothing)) (λ c nothing. nothing))
      (λ (l : (longer v.seen w.seen ≡ v.seen) × ((mid : List E) × (w.seen ++ mid ≡ v.seen) × (g.rest ≡ mid ++ h.rest))).
      knows_both r.next r.seat r.since r.place id other v w apart h g h.rest (subst (Begins first) (sym l.0) h.opened) (ap (λ (es : List E). es ++ h.rest) l.0 ∙ h.begins)
      (λ c nothing. nothing) (λ c nothing. none_behind caller c l.1.0 h.rest (ap (entries_by caller c) (sym l.1.2) ∙ nothing)))
      (longer_cases v.seen w.seen h.rest g.rest ends) in
      let not_turn : (u : View E) → u.role ≡ Rests → u.role ≢ Turns = (λ u is e. let no : Rests ≡ Turns = sym is ∙ e in absurd cc) in
      record {
        next = r.next;
        seat = seat';
        since = r.since;
        place = r.place;
        few = r.few;
        words = r.words;
        homes = r.homes;
        placed = placed_besides (first ++ r.since) (set s.views id (both v w)) other w spent r.place there (not_turn w also)
            (placed_besides (first ++ r.since) s.views id v (both v w) r.place at (not_turn v rests) r.placed);
        each = each_set K (set s.views id (both v w)) other spent (λ live. absurd live)
            (λ j u not_other here live. each_set (λ i y. i ≢ other → K i y) s.views id (both v w) (λ _ _. joined)
            (λ i y not_id here' not_other' live'. let old = r.each i y here' live' in record {
              same = old.same;
              opened = old.opened;
              rest = old.rest;
              begins = old.begins;
              told = old.told;
              speaks = λ k in_it. let f = old.speaks k in_it in record { given = f.given; here = not_taken r.seat id other k.0 i f.here not_other'; kept = f.kept; seen = f.seen };
              deals = old.deals;
              poses = old.poses;
            })
            j u here not_other live);
        strangers = r.strangers;
      }

  -- the table as it is made
  pub opens : (x : T) (n : ℕ) → 0 < all → origin x ≡ o → story x ≡ first → n ≡ length first → n < 2 ^ 64 → Rule (opening (n ∷ 0 ∷ []) (Some x ∷ []) (first_seat 1 o first))
  opens x n some_ same told long small =
      let e : n ≡ length (first ++ []) % 2 ^ 64 = rw (append-nil first) (omega arith) in
      record {
        next = 1;
        seat = λ _. 0;
        since = [];
        place = home x;
        few = omega arith;
        words = ap (λ (k : ℕ). k ∷ 0 ∷ []) e;
        homes = refl;
        placed = (same, told ∙ sym (append-nil first));
        each = each_snoc (λ j v. IsLive v.role → Knows origin story caller o first 1 (λ _. 0) [] (home x) j v) [] (first_seat 1 o first)
            (λ _. record {
              same = refl;
              opened = ([], append-nil first);
              rest = [];
              begins = refl;
              told = λ es here. absurd (let l = here.1 in omega arith);
              speaks = λ k here. subst (Speaks origin story caller 1 (λ _. 0) [] [] 0) (in_one (0, []) k here) record { given = lit< tt; here = refl; kept = refl; seen = refl };
              deals = λ m e. let same_next : 1 ≡ m = cc e in (refl, sym same_next);
              poses = tt;
            })
            (λ j v here live. absurd (some-ne-none v (sym here)));
        strangers = λ c far. refl;
      }

  -- the value at the end: its story is the one story
  pub record Whole (v : View E) (x : T) : Type 0 where
    pub same : origin x ≡ o
    pub starts : Begins first (story x)
    pub begins : Begins v.seen (story x)
    pub heard : (es : List E) → Contains v.heard es → Begins es (story x)
    pub made : (k : ℕ × List E) → Contains v.callers k → entries_by caller k.0 (after first (story x)) ≡ k.1
    pub others : All (λ e. caller e < all) (after first (story x))

  whole_at : (s : St) (r : Rule s) (id : ℕ) (v : View E) (p : Place T) → r.place ≡ p → get_elem? s.views id ≡ some v → v.role ≡ Rests
      → ((c : ℕ) → c < all → (made : List E) × Contains v.callers (c, made)) → (x : T) × (s.homes ≡ some (Some x) ∷ []) × Whole v x
  whole_at s r id v (home x) is at rests every =
      let mine = knows_live s r id v Rests at rests tt in
      let placed : (origin x ≡ o) × (story x ≡ first ++ r.since) = subst (Placed origin story caller o (first ++ r.since) s.views) is r.placed in
      let behind : after first (story x) ≡ r.since = after_whole first r.since (story x) (sym placed.1) in (
        x,
        r.homes ∙ ap (λ (q : Place T). slot_of q ∷ []) is,
        record {
          same = placed.0;
          starts = (r.since, sym placed.1);
          begins = (mine.rest, mine.begins ∙ sym placed.1);
          heard = λ es here. let h = mine.told es here in (h.0, h.1 ∙ sym placed.1);
          made = λ k here. ap (entries_by caller k.0) behind ∙ (mine.speaks k here).kept;
          others = subst (All (λ e. caller e < all)) (sym behind) (all_below caller all r.since (λ c far. let f = r.few in r.strangers c (omega arith)));
        },
      )
  whole_at s r id v (out j) is at rests every =
      let mine = knows_live s r id v Rests at rests tt in
      let placed : Placed origin story caller o (first ++ r.since) s.views (out j) = subst (Placed origin story caller o (first ++ r.since) s.views) is r.placed in
      let u : View E = placed.0 in
      let his = knows_live s r j u Turns placed.1 placed.2 tt in
      let poses : Poses origin story caller (first ++ r.since) r.place j u Turns = subst (Poses origin story caller (first ++ r.since) r.place j u) placed.2 his.poses in
      let k : ℕ × List E = poses.2.0 in
      let speaks = his.speaks k (one_in u.callers k poses.2.1) in
      let f = r.few in
      let g = speaks.given in
      let mine_too = every k.0 (omega arith) in
      let here : id ≡ j = sym (mine.speaks (k.0, mine_too.0) mine_too.1).here ∙ speaks.here in
      let same : v ≡ u = some-injective v u (sym at ∙ (ap (get_elem? s.views) here ∙ placed.1)) in
      let no : Rests ≡ Turns = sym rests ∙ (ap (λ (y : View E). y.role) same ∙ placed.2) in
      absurd cc

  -- where one seat at rest speaks for all callers, the value is at home
  pub whole : (s : St) (r : Rule s) (id : ℕ) (v : View E) → get_elem? s.views id ≡ some v → v.role ≡ Rests
      → ((c : ℕ) → c < all → (made : List E) × Contains v.callers (c, made)) → (x : T) × (s.homes ≡ some (Some x) ∷ []) × Whole v x
  whole s r id v = whole_at s r id v r.place refl
