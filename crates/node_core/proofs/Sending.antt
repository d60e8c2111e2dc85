-- The first packet that is due of all that the shards of a node hold.
use Rattle.std.proofs.Common.{◌≡◌, ℕ, zero, suc, ◌+◌, inl, inr, true, List, [], ◌∷◌, ◌++◌, take, get_or, set, Option, Some, None, refl, sym, ap, ◌∙◌, subst, arith, add-one}
use Rattle.std.specs.List.{Contains, slice_get}
use Rattle.std.proofs.Math.Seq.{take-suc}
use Rattle.std.proofs.lemmas.Grind.{flat_map-append}
use Rattle.std.proofs.lemmas.List.{append-nil}
use Rattle.std.proofs.lemmas.List.Concat.{flat_map-cons}
use Rattle.std.proofs.lemmas.List.Elements.{Contains-append_cases, Contains-append_left, Contains-append_right}
use Rattle.std.proofs.lemmas.Option.{get_or_from_slice_get, slice_get_within}
use Rattle.std.proofs.lemmas.Slice.Eq.{bytes_eq-Decides}
use Rattle.std.specs.Prelude.{IfSome, IfNone, IsPermutation}
use Rattle.mix_base.specs.Suites.{SuiteMeaning}
use Rattle.due_queue.proofs.Entries.{is_same}
use Rattle.due_queue.specs.Destinations.{same_dest}
use Rattle.due_queue.specs.declared.destinations.Dest.{Dest}
use Rattle.due_queue.specs.declared.destinations.Dest.TheVariants.{Hop, Local}
use Rattle.due_queue.specs.Queues.{IsDue, IsFirstDue, NoneDue, NotAfter}
use Rattle.due_queue.specs.declared.queue.Next.{Next}
use Rattle.mix_shard.specs.Items.{Item, whens}
use Rattle.mix_shard.specs.Shards.{Adds, IsEntry, ShardState}
use Rattle.mix_shard.specs.declared.entries.Entry.TheVariants as entry
use Rattle.node_core.specs.Inside.{HasFound, StandsFirst}
use Rattle.node_core.specs.Nodes.{NodeState, all_held}
use Rattle.node_core.specs.Steps.{SendsItem}

-- what the shards up to a place hold
pub held_more : (shards : List ShardState) (place : ℕ) (shard : ShardState) → slice_get shards place ≡ Some shard
    → all_held (take (place + 1) shards) ≡ all_held (take place shards) ++ shard.state.held
held_more shards place shard there =
    let within = slice_get_within shards place shard there in
    let is : get_or shards place shard ≡ shard = get_or_from_slice_get shards place shard shard there in
    let more : take (place + 1) shards ≡ take place shards ++ shard ∷ [] =
    rw add-one (take-suc shards place shard within) ∙ ap (λ last. take place shards ++ last ∷ []) is in
    ap all_held more
    ∙ flat_map-append (λ (s : ShardState). s.state.held) (take place shards) (shard ∷ [])
    ∙ ap (λ (l : List Item). all_held (take place shards) ++ l) (flat_map-cons (λ (s : ShardState). s.state.held) shard [] ∙ append-nil shard.state.held)

-- what a shard of these holds is held by them
pub held_there : (shards : List ShardState) (place : ℕ) (shard : ShardState) (item : Item) → slice_get shards place ≡ Some shard
    → Contains shard.state.held item → Contains (all_held shards) item
held_there [] place shard item there holds = absurd (cc)
held_there (first ∷ others) zero shard item there holds =
    let same : first ≡ shard = cc in
    subst (λ (l : List Item). Contains l item) (sym (flat_map-cons (λ (s : ShardState). s.state.held) first others))
    (Contains-append_left first.state.held (all_held others) item (subst (λ (s : ShardState). Contains s.state.held item) (sym same) holds))
held_there (first ∷ others) (suc place) shard item there holds =
    subst (λ (l : List Item). Contains l item) (sym (flat_map-cons (λ (s : ShardState). s.state.held) first others))
    (Contains-append_right first.state.held (all_held others) item (held_there others place shard item there holds))

along : (first second third : Next) → NotAfter first second → NotAfter second third → NotAfter first third
along first second third (inl one) (inl two) = inl (omega arith)
along first second third (inl one) (inr two) = inl (omega (arith, two.0))
along first second third (inr one) (inl two) = inl (omega (arith, one.0))
along first second third (inr one) (inr two) = inr (one.0 ∙ two.0, omega (arith, one.1, two.1))

module _ (moment : ℕ) (shards : List ShardState) (seen more : List Item) where
  none_more : NoneDue whens None moment seen → NoneDue whens None moment more → NoneDue whens None moment (seen ++ more)
  none_more before now item there =
      elim (Contains-append_cases seen more item there) [ inl earlier ↦ before item earlier | inr later ↦ now item later ]

  -- a shard of which nothing is due
  pub nothing_more : (first : Option (ℕ × Next)) → HasFound moment shards seen first → NoneDue whens None moment more
      → HasFound moment shards (seen ++ more) first
  nothing_more None before now = none_more before now
  nothing_more (Some found) before now = record {
    shard = before.shard;
    there = before.there;
    item = before.item;
    found = before.found;
    next_is = before.next_is;
    first = λ other there due.
        elim (Contains-append_cases seen more other there) [ inl earlier ↦ before.first other earlier due | inr later ↦ absurd (now other later due) ];
  }

  -- the first found stays where the first of this shard isn't before it
  stays_first : (place : ℕ) (next later : Next) (item : Item) → StandsFirst moment shards seen place next
      → IsFirstDue whens None moment more item → later ≡ whens item → NotAfter next later → StandsFirst moment shards (seen ++ more) place next
  stays_first place next later item before now is after = record {
    shard = before.shard;
    there = before.there;
    item = before.item;
    found = before.found;
    next_is = before.next_is;
    first = λ other there due.
        elim (Contains-append_cases seen more other there) [
          | inl earlier ↦ before.first other earlier due
          | inr new ↦ along next (whens item) (whens other) (subst (λ (n : Next). NotAfter next n) is after) (now.first other new due)
        ];
  }

  -- the first of this shard comes first where it isn't after the one found
  comes_first : (place at : ℕ) (next other : Next) (shard : ShardState) (item : Item) → StandsFirst moment shards seen at other
      → slice_get shards place ≡ Some shard → more ≡ shard.state.held → IsFirstDue whens None moment more item → next ≡ whens item → NotAfter next other
      → StandsFirst moment shards (seen ++ more) place next
  comes_first place at next other shard item before there held now is after = record {
    shard = shard;
    there = there;
    item = item;
    found = subst (λ (l : List Item). IsFirstDue whens None moment l item) held now;
    next_is = is;
    first = λ one one_there due.
        elim (Contains-append_cases seen more one one_there) [
          | inl earlier ↦ along next other (whens one) after (before.first one earlier due)
          | inr new ↦ subst (λ (n : Next). NotAfter n (whens one)) (sym is) (now.first one new due)
        ];
  }

  is_only : (place : ℕ) (next : Next) (shard : ShardState) (item : Item) → NoneDue whens None moment seen
      → slice_get shards place ≡ Some shard → more ≡ shard.state.held → IsFirstDue whens None moment more item → next ≡ whens item
      → StandsFirst moment shards (seen ++ more) place next
  is_only place next shard item before there held now is = record {
    shard = shard;
    there = there;
    item = item;
    found = subst (λ (l : List Item). IsFirstDue whens None moment l item) held now;
    next_is = is;
    first = λ one one_there due.
        elim (Contains-append_cases seen more one one_there) [
          | inl earlier ↦ absurd (before one earlier due)
          | inr new ↦ subst (λ (n : Next). NotAfter n (whens one)) (sym is) (now.first one new due)
        ];
  }

  -- the same of a first that is named
  pub named_only : (first : Option (ℕ × Next)) (place : ℕ) (next : Next) (shard : ShardState) (item : Item) → first ≡ None
      → HasFound moment shards seen first → slice_get shards place ≡ Some shard → more ≡ shard.state.held
      → IsFirstDue whens None moment more item → next ≡ whens item → StandsFirst moment shards (seen ++ more) place next
  named_only None place next shard item is before there held now next_is = is_only place next shard item before there held now next_is
  named_only (Some found) place next shard item is before there held now next_is = absurd (cc)

  pub named_stays : (first : Option (ℕ × Next)) (at : ℕ) (other later : Next) (item : Item) → first ≡ Some (at, other) → HasFound moment shards seen first
      → IsFirstDue whens None moment more item → later ≡ whens item → NotAfter other later → HasFound moment shards (seen ++ more) first
  named_stays None at other later item is before now later_is after = absurd (cc)
  named_stays (Some found) at other later item is before now later_is after =
      let same : found.1 ≡ other = cc in
      stays_first found.0 found.1 later item before now later_is (subst (λ (n : Next). NotAfter n later) (sym same) after)

  pub named_gives_way : (first : Option (ℕ × Next)) (at place : ℕ) (other next : Next) (shard : ShardState) (item : Item) → first ≡ Some (at, other)
      → HasFound moment shards seen first → slice_get shards place ≡ Some shard → more ≡ shard.state.held
      → IsFirstDue whens None moment more item → next ≡ whens item → NotAfter next other → StandsFirst moment shards (seen ++ more) place next
  named_gives_way None at place other next shard item is before there held now next_is after = absurd (cc)
  named_gives_way (Some found) at place other next shard item is before there held now next_is after =
      let same : found.1 ≡ other = cc in
      comes_first place found.0 next found.1 shard item before there held now next_is (subst (λ (n : Next). NotAfter next n) (sym same) after)

same_self : (dest : Dest) → same_dest dest dest ≡ true
same_self (Hop id) = (bytes_eq-Decides id id).1 refl
same_self Local = refl

module _ (moment : ℕ) (shards : List ShardState) (place : ℕ) (next : Next) (before : ShardState)
    (stands : StandsFirst moment shards (all_held shards) place next) (there : slice_get shards place ≡ Some before) where
  is_before : stands.shard ≡ before
  is_before = let found : slice_get shards place ≡ Some stands.shard = stands.there in cc

  found_there : IsFirstDue whens None moment before.state.held stands.item
  found_there = subst (λ (s : ShardState). IsFirstDue whens None moment s.state.held stands.item) is_before stands.found

  found_due : IsDue (Some next.dest) moment (whens stands.item)
  found_due = record {
    wanted_dest = subst (λ (n : Next). same_dest next.dest n.dest ≡ true) stands.next_is (same_self next.dest);
    due = stands.found.is_due.due;
  }

  -- what the shard gives for the destination is first of all
  first_of_all : (item : Item) → IsFirstDue whens (Some next.dest) moment before.state.held item → IsFirstDue whens None moment (all_held shards) item
  first_of_all item taken = record {
    there = held_there shards place before item there taken.there;
    is_due = record { wanted_dest = tt; due = taken.is_due.due };
    first = λ other other_there due.
        along (whens item) next (whens other)
        (subst (λ (n : Next). NotAfter (whens item) n) (sym stands.next_is) (taken.first stands.item found_there.there found_due))
        (stands.first other other_there due);
  }

  -- so it gives something
  pub gives_some : (result : Option Item) (fact : Type 0) → IfNone result (NoneDue whens (Some next.dest) moment before.state.held) → IfNone result fact
  gives_some None fact none = absurd (none stands.item found_there.there found_due)
  gives_some (Some item) fact none = tt

  module _ (tells : Type 0) (suite : SuiteMeaning) (after : ShardState) where
    pub item_sent : (old : NodeState) (result : Option Item) → old.shards ≡ shards
        → IfSome result (IsFirstDue whens (Some next.dest) moment before.state.held)
        → IfSome result (λ item. IsPermutation before.state.held (item ∷ after.state.held))
        → IfSome result (λ item. Adds tells suite 0 (IsEntry (entry.Take 0 item.number next.dest moment)) before after)
        → after.rack ≡ before.rack
        → IfSome result (λ item. SendsItem tells suite moment item old (record old { shards = set shards place after }))
    item_sent old None is taken rest told rack = tt
    item_sent old (Some item) is taken rest told rack = record {
      first = subst (λ (l : List ShardState). IsFirstDue whens None moment (all_held l) item) (sym is) (first_of_all item taken);
      place = place;
      gives = record {
        before = before;
        after = after;
        there = subst (λ (l : List ShardState). slice_get l place ≡ Some before) (sym is) there;
        changes = record {
          told = subst (λ (dest : Dest). Adds tells suite 0 (IsEntry (entry.Take 0 item.number dest moment)) before after)
              (is_same next.dest (whens item).dest taken.is_due.wanted_dest) told;
          rest = rest;
          rack = rack;
        };
        new_is = ap (λ (l : List ShardState). record old { shards = set l place after }) (sym is);
      };
    }

    pub same_terms : (result : Option Item) → IfNone result (NoneDue whens (Some next.dest) moment before.state.held)
        → IfSome result (λ item. Adds tells suite 0 (IsEntry (entry.Take 0 item.number next.dest moment)) before after)
        → after.terms ≡ before.terms
    same_terms None none told = absurd (none stands.item found_there.there found_due)
    same_terms (Some item) none told = told.began.terms
