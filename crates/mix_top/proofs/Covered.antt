-- A shard through an act: which packets it holds after it, and that every book of its journal covers each pair that it holds or
-- has handed on, none of which its disk covered at first. So does whatever a crash leaves.
use Rattle.std.proofs.Common.{◌≡◌, ◌≢◌, ℕ, ◌≤◌, List, [], ◌∷◌, ◌++◌, map, ◌⊎◌, inl, inr, Option, Some, None, Result, Ok, Err, refl, sym, ap, ◌∙◌, subst, arith}
use Rattle.std.specs.List.{Contains}
use Rattle.std.specs.List.Sorted.{IsPermutation}
use Rattle.std.proofs.lemmas.Bool.{or_left}
use Rattle.std.proofs.lemmas.Grind.{flat_map-append}
use Rattle.std.proofs.lemmas.List.{map-append}
use Rattle.std.proofs.lemmas.List.Elements.{All-contains, Contains-append_right, Contains-push_cases, Contains-append_cases}
use Rattle.std.proofs.lemmas.List.Folds.{list_any-append}
use Rattle.std.proofs.lemmas.List.Sorted.{Contains-permutation, IsPermutation-map, IsPermutation-sym}
use Rattle.mix_base.specs.Suites.{SuiteMeaning}
use Rattle.mix_base.specs.declared.shards.Shape.{Shape}
use Rattle.mix_base.proofs.Members.{none_in_empty, Contains-head, Contains-tail}
use Rattle.replay_disk.specs.Disk.{Areas, AreAtRest, RackState}
use Rattle.spent_store.specs.Books.{StoredBook, IsCovered}
use Rattle.spent_store.specs.Journals.{Journal}
use Rattle.spent_store.specs.Stores.{Left, OpensToOneOf, opened}
use Rattle.spent_store.specs.declared.faults.ClaimFault.{ClaimFault}
use Rattle.spent_store.specs.declared.faults.Objection.{Objection}
use Rattle.spent_store.specs.declared.faults.OpenStore.{OpenStore}
use Rattle.spent_store.specs.declared.faults.OpenStore.TheVariants as open_store
use Rattle.spent_store.specs.declared.summary.Book.{Book}
use Rattle.mix_shard.specs.Entries.{claim_answer, has_opened, is_opening}
use Rattle.mix_shard.specs.Faults.{admit_answer, rotate_answer}
use Rattle.mix_shard.specs.Items.{Item}
use Rattle.mix_shard.specs.Laws.{AllCover, KeepsCovered, accepted, accepted_by}
use Rattle.mix_shard.specs.Shards.{Adds, IsCharted, IsClaimEntry, IsOpeningBy, IsRotateEntry, RefusesOpening, SameButRack, ShardState, Unopened}
use Rattle.mix_shard.specs.Tale.{HeldAfter, Says, State, Steps, Unheard}
use Rattle.mix_shard.specs.declared.entries.Answer.{Answer}
use Rattle.mix_shard.specs.declared.entries.Answer.TheVariants.{Taken}
use Rattle.mix_shard.specs.declared.entries.Entry.{Entry}
use Rattle.mix_shard.specs.declared.entries.Entry.TheVariants as entry
use Rattle.mix_shard.specs.declared.entries.Told.{Told}
use Rattle.mix_shard.specs.declared.faults.Denied.{Denied}
use Rattle.mix_shard.specs.declared.faults.RotateFault.{RotateFault}
use Rattle.mix_shard.specs.declared.terms.Terms.{Terms}
use Rattle.mix_shard.proofs.Covering.{accepted_new, accepted_stays, covered_stays}
use Rattle.mix_shard.proofs.Tales.{tale_of_steps, unheard_once}
use Rattle.node_core.specs.Nodes.{shape_at}
use Rattle.node_core.specs.Steps.{Admits, CrashesShard, GivesUp, Readies, Retires, place_of}
use Rattle.node_core.specs.Steps as node
use Rattle.node_core.specs.declared.setup.NodeSetup.{NodeSetup}
use Rattle.mix_top.specs.Headline.{CoversAll}
use Rattle.mix_top.specs.Report.{pair_of}
use Rattle.mix_top.proofs.Members.{all_within, fewer_behind, none_more, not_behind, once_more, times, times_shuffled}

-- the pairs of what a shard holds
abbrev pub held_pairs : State → List (ℕ × List ℕ)
held_pairs state = map pair_of state.held

-- ---- a shard through an act

-- its tale goes on, or begins anew, and what all books of its journal covered they cover
pub record Goes (old new : ShardState) : Type 0 where
  pub charted : IsCharted old → IsCharted new
  pub covered : IsCharted old → KeepsCovered old.state.journal new.state.journal

-- What becomes of the packets that it holds, and which pairs are handed on. A packet that is taken has a pair of this shard, which
-- wasn't covered and is then.
pub data Holds (setup : NodeSetup) (index : ℕ) (old new : ShardState) (sent : List (ℕ × List ℕ)) : Type 0 where
  Keeps : new.state.held ≡ old.state.held → sent ≡ [] → Holds setup index old new sent
  Empties : new.state.held ≡ [] → sent ≡ [] → Holds setup index old new sent
  Takes : (item : Item) → place_of setup item.tag ≡ index → IsPermutation (old.state.held ++ item ∷ []) new.state.held
      → (AllCover old.state.journal (pair_of item) → ⊥) → AllCover new.state.journal (pair_of item) → sent ≡ [] → Holds setup index old new sent
  Gives : (item : Item) → IsPermutation old.state.held (item ∷ new.state.held) → sent ≡ pair_of item ∷ [] → Holds setup index old new sent

pub record Acts (setup : NodeSetup) (index : ℕ) (old new : ShardState) (sent : List (ℕ × List ℕ)) : Type 0 where
  pub goes : Goes old new
  pub holds : Holds setup index old new sent

-- ---- entries

-- an accepted claim adds an item of its pair
record Accepts (pair : ℕ × List ℕ) (answer : Answer) (old new : State) : Type 0 where
  pub item : Item
  pub same : pair ≡ pair_of item
  pub taken : answer ≡ Taken
  pub held : IsPermutation (old.held ++ item ∷ []) new.held

-- by the store's result
claimed_held : (pair : ℕ × List ℕ) (answer : Answer) (item : Item) (result : Result (Unit {0}) ClaimFault) (old new : State)
    → answer ≡ claim_answer result → pair ≡ pair_of item → HeldAfter result item old.held new.held → (new.held ≡ old.held) ⊎ Accepts pair answer old new
claimed_held pair answer item (Ok done) old new is same held = inr (record { item = item; same = same; taken = is; held = held })
claimed_held pair answer item (Err fault) old new is same held = inl held

module _ (tells : Type 0) (suite : SuiteMeaning) (terms : Terms) where
  -- a claim and a rotation, accepted or refused, of a sound journal or not
  claim_held : (told : Told) (caller number epoch : ℕ) (tag : List ℕ) (at : ℕ) (answer : Answer) (old new : State)
      → Says tells suite terms told (entry.Claim caller number epoch tag at answer) old new → (new.held ≡ old.held) ⊎ Accepts (epoch, tag) answer old new
  claim_held told caller number epoch tag at answer old new says =
      elim says.3 [
        | inl claims ↦ claimed_held (epoch, tag) answer says.1 claims.result old new claims.answer_is
            (λ i. (sym says.2.epoch_is i, sym says.2.tag_is i)) claims.held
        | inr unsound ↦ inl (ap (λ (s : State). s.held) unsound.new_is)
      ]

  rotate_held : (told : Told) (caller moment : ℕ) (answer : Answer) (old new : State) → Says tells suite terms told (entry.Rotate caller moment answer) old new
      → new.held ≡ old.held
  rotate_held told caller moment answer old new says = elim says [ inl rotates ↦ rotates.held | inr unsound ↦ ap (λ (s : State). s.held) unsound.new_is ]

  -- entries behind an opening, which leaves the packets as they are
  record Behind (own : List Told) (old new : State) : Type 0 where
    pub between : State
    pub held : between.held ≡ old.held
    pub steps : Steps tells suite terms between own new

  behind_opening : (caller : ℕ) (opening own : List Told) (old new : State) → IsOpeningBy caller opening → Steps tells suite terms old (opening ++ own) new
      → Behind own old new
  behind_opening caller opening own old new (inl none) steps = record {
    between = old;
    held = refl;
    steps = subst (λ (entries : List Told). Steps tells suite terms old (entries ++ own) new) none steps;
  }
  behind_opening caller opening own old new (inr (told, floor, pairs, one, is)) steps =
      let all : Steps tells suite terms old (told ∷ own) new = subst (λ (entries : List Told). Steps tells suite terms old (entries ++ own) new) one steps in
      let says : Says tells suite terms told (entry.Reopened caller floor pairs) old all.0 = subst (λ (e : Entry). Says tells suite terms told e old all.0) is all.1 in
      record { between = all.0; held = ap (λ (s : State). s.held) says.new_is; steps = all.2 }

  -- a call's own entries: none, or one
  no_own : (own : List Told) (old new : State) → own ≡ [] → Steps tells suite terms old own new → new.held ≡ old.held
  no_own own old new none steps =
      let same : new ≡ old = subst (λ (entries : List Told). Steps tells suite terms old entries new) none steps in
      ap (λ (s : State). s.held) same

  one_own : (own : List Told) (told : Told) (is : Entry) (old new : State) → own ≡ told ∷ [] → told.entry ≡ is → Steps tells suite terms old own new
      → Says tells suite terms told is old new
  one_own own told is old new one same steps =
      let all : Steps tells suite terms old (told ∷ []) new = subst (λ (entries : List Told). Steps tells suite terms old entries new) one steps in
      subst (λ (s : State). Says tells suite terms told is old s) (sym all.2)
      (subst (λ (e : Entry). Says tells suite terms told e old all.0) same all.1)

  -- a call's own entries accepted a claim of this pair
  record AcceptsBy (pair : ℕ × List ℕ) (own : List Told) (old new : State) : Type 0 where
    pub item : Item
    pub same : pair ≡ pair_of item
    pub there : Contains (accepted own) pair
    pub held : IsPermutation (old.held ++ item ∷ []) new.held

  accepted_one : (told : Told) (caller number epoch : ℕ) (tag : List ℕ) (at : ℕ) (answer : Answer) → told.entry ≡ entry.Claim caller number epoch tag at answer → answer ≡ Taken
      → Contains (accepted (told ∷ [])) (epoch, tag)
  accepted_one told caller number epoch tag at answer same taken =
      let is : told.entry ≡ entry.Claim caller number epoch tag at Taken = same ∙ ap (λ (a : Answer). entry.Claim caller number epoch tag at a) taken in
      subst (λ (e : Entry). Contains (accepted_by e ++ []) (epoch, tag)) (sym is) (Contains-head (epoch, tag) [])

  -- those of a claim, and of a rotation
  claim_own : (caller : ℕ) (item : Item) (answer : Option Answer) (own : List Told) (old new : State) → IsClaimEntry caller item answer own
      → Steps tells suite terms old own new → (new.held ≡ old.held) ⊎ AcceptsBy (pair_of item) own old new
  claim_own caller item None own old new is steps = inl (no_own own old new is steps)
  claim_own caller item (Some answer) own old new (told, one, same, packet) steps =
      elim (claim_held told caller item.number item.epoch item.tag item.at answer old new (one_own own told _ old new one same steps)) [
        | inl stays ↦ inl stays
        | inr accepts ↦ inr (record {
          item = accepts.item;
          same = accepts.same;
          there = subst (λ (entries : List Told). Contains (accepted entries) (pair_of item)) (sym one)
              (accepted_one told caller item.number item.epoch item.tag item.at answer same accepts.taken);
          held = accepts.held;
        })
      ]

  rotate_own : (caller moment : ℕ) (answer : Option Answer) (own : List Told) (old new : State) → IsRotateEntry caller moment answer own
      → Steps tells suite terms old own new → new.held ≡ old.held
  rotate_own caller moment None own old new is steps = no_own own old new is steps
  rotate_own caller moment (Some answer) own old new (told, one, same) steps = rotate_held told caller moment answer old new (one_own own told _ old new one same steps)

-- ---- calls of a shard

module _ (tells : Type 0) (t : tells) (suite : SuiteMeaning) where
  -- the tale goes on
  adds_goes : (caller : ℕ) (Own : List Told → Type 0) (old new : ShardState) → Adds tells suite caller Own old new → Goes old new
  adds_goes caller Own old new adds = record {
    charted = λ charted. elim charted [
      | inl rest ↦ inl (subst (λ (rack : RackState). AreAtRest rack.areas) (sym adds.began.first) rest)
      | inr some ↦ inr (ap has_opened adds.told ∙ list_any-append is_opening old.told (adds.opening ++ adds.own) ∙ or_left (has_opened old.told) (has_opened (adds.opening ++ adds.own)) some)
    ];
    covered = λ charted. covered_stays tells t suite old.terms old.state new.state (adds.opening ++ adds.own)
        (tale_of_steps tells suite old.terms old.state new.state (adds.opening ++ adds.own) adds.steps);
  }

  -- an opening that failed is the empty tale, with one opening that no entry tells of
  unopened_goes : (old new : ShardState) → Unopened old new → Goes old new
  unopened_goes old new is = record {
    charted = λ charted. elim charted [
      | inl rest ↦ inl (subst (λ (rack : RackState). AreAtRest rack.areas) (sym is.began.first) rest)
      | inr some ↦ inr (ap has_opened is.told ∙ some)
    ];
    covered = λ charted. covered_stays tells t suite old.terms old.state new.state []
        (subst (λ (s : State). Unheard old.terms.shape old.state s) (sym is.state) (unheard_once old.terms.shape old.state is.unsound));
  }

  unopened_acts : (setup : NodeSetup) (index : ℕ) (old new : ShardState) → Unopened old new → Acts setup index old new []
  unopened_acts setup index old new is = record { goes = unopened_goes old new is; holds = Keeps (ap (λ (s : State). s.held) is.state) refl }

  -- want of memory changes nothing but the rack
  same_acts : (setup : NodeSetup) (index : ℕ) (old new : ShardState) → SameButRack old new → Acts setup index old new []
  same_acts setup index old new is = record {
    goes = record {
      charted = λ charted. elim charted [
        | inl rest ↦ inl (subst (λ (rack : RackState). AreAtRest rack.areas) (sym is.began.first) rest)
        | inr some ↦ inr (ap has_opened is.told ∙ some)
      ];
      covered = λ charted pair all. subst (λ (s : State). AllCover s.journal pair) (sym is.state) all;
    };
    holds = Keeps (ap (λ (s : State). s.held) is.state) refl;
  }

  refused_acts : (setup : NodeSetup) (index : ℕ) (fault : OpenStore) (old new : ShardState) → RefusesOpening fault old new → Acts setup index old new []
  refused_acts setup index open_store.Memory old new is = same_acts setup index old new is
  refused_acts setup index open_store.Failed old new is = unopened_acts setup index old new is
  refused_acts setup index (open_store.Foreign area at) old new is = unopened_acts setup index old new is
  refused_acts setup index (open_store.OtherShape stored) old new is = unopened_acts setup index old new is

  pub readies_acts : (setup : NodeSetup) (index : ℕ) (result : Result Book OpenStore) (old new : ShardState) → Readies tells suite result old new → Acts setup index old new []
  readies_acts setup index (Ok book) old new readies =
      let adds = readies.ok.adds in
      let behind = behind_opening tells suite old.terms 0 adds.opening adds.own old.state new.state adds.by_caller adds.steps in
      record {
        goes = adds_goes 0 (λ own. own ≡ []) old new adds;
        holds = Keeps (no_own tells suite old.terms adds.own behind.between new.state adds.own_is behind.steps ∙ behind.held) refl;
      }
  readies_acts setup index (Err fault) old new readies = refused_acts setup index fault old new readies.refused

  pub rotates_acts : (setup : NodeSetup) (index moment : ℕ) (result : Result (Unit {0}) RotateFault) (old new : ShardState) → Retires tells suite moment result old new
      → Acts setup index old new []
  rotates_acts setup index moment result old new retires =
      let adds = retires.told in
      let behind = behind_opening tells suite old.terms 0 adds.opening adds.own old.state new.state adds.by_caller adds.steps in
      record {
        goes = adds_goes 0 (IsRotateEntry 0 moment (rotate_answer result)) old new adds;
        holds = Keeps (rotate_own tells suite old.terms 0 moment (rotate_answer result) adds.own behind.between new.state adds.own_is behind.steps ∙ behind.held) refl;
      }

  -- an accepted claim takes a pair that wasn't covered, and is then
  pub claims_acts : (setup : NodeSetup) (item : Item) (result : Result (Unit {0}) Denied) (old new : ShardState) → Admits tells suite item result old new
      → Acts setup (place_of setup item.tag) old new []
  claims_acts setup item result old new admits =
      let adds = admits.told in
      let tale = tale_of_steps tells suite old.terms old.state new.state (adds.opening ++ adds.own) adds.steps in
      let behind = behind_opening tells suite old.terms 0 adds.opening adds.own old.state new.state adds.by_caller adds.steps in
      record {
        goes = adds_goes 0 (IsClaimEntry 0 item (admit_answer result)) old new adds;
        holds = elim (claim_own tells suite old.terms 0 item (admit_answer result) adds.own behind.between new.state adds.own_is behind.steps) [
          | inl stays ↦ Keeps (stays ∙ behind.held) refl
          | inr accepts ↦
              let joined : accepted (adds.opening ++ adds.own) ≡ accepted adds.opening ++ accepted adds.own =
              flat_map-append (λ (told : Told). accepted_by told.entry) adds.opening adds.own in
              let there : Contains (accepted (adds.opening ++ adds.own)) (pair_of item) =
              subst (λ (ps : List (ℕ × List ℕ)). Contains ps (pair_of item)) (sym joined) (Contains-append_right (accepted adds.opening) (accepted adds.own) (pair_of item) accepts.there) in
              Takes accepts.item (ap (λ (p : ℕ × List ℕ). place_of setup p.1) (sym accepts.same))
              (subst (λ (held : List Item). IsPermutation (held ++ accepts.item ∷ []) new.state.held) behind.held accepts.held)
              (subst (λ (p : ℕ × List ℕ). AllCover old.state.journal p → ⊥) accepts.same
              (All-contains (λ (p : ℕ × List ℕ). ¬ AllCover old.state.journal p) (accepted (adds.opening ++ adds.own)) (pair_of item)
              (accepted_new tells t suite old.terms old.state new.state (adds.opening ++ adds.own) tale) there))
              (subst (AllCover new.state.journal) accepts.same
              (All-contains (AllCover new.state.journal) (accepted (adds.opening ++ adds.own)) (pair_of item)
              (accepted_stays tells t suite old.terms old.state new.state (adds.opening ++ adds.own) tale) there)) refl
        ];
      }

  pub gives_acts : (setup : NodeSetup) (index moment : ℕ) (item : Item) (old new : ShardState) → GivesUp tells suite moment item old new
      → Acts setup index old new (pair_of item ∷ [])
  gives_acts setup index moment item old new gives = record { goes = adds_goes 0 _ old new gives.told; holds = Gives item gives.rest refl }

  pub arms_acts : (setup : NodeSetup) (index calls : ℕ) (old new : ShardState) → node.Arms calls old new → Acts setup index old new []
  arms_acts setup index calls old new is = record {
    goes = record {
      charted = λ charted. elim charted [
        | inl rest ↦ inl (subst (λ (s : ShardState). AreAtRest s.first.areas) (sym is) rest)
        | inr some ↦ inr (ap (λ (s : ShardState). has_opened s.told) is ∙ some)
      ];
      covered = λ charted pair all. subst (λ (s : ShardState). AllCover s.state.journal pair) (sym is) all;
    };
    holds = Keeps (ap (λ (s : ShardState). s.state.held) is) refl;
  }

  -- a crash empties the shard
  pub crash_acts : (setup : NodeSetup) (index pick : ℕ) (old new : ShardState) → CrashesShard tells pick old new → Acts setup index old new []
  crash_acts setup index pick old new crash = record {
    goes = record {
      charted = λ charted. crash.charted t;
      covered = crash.covered_stays t;
    };
    holds = Empties (ap (λ (s : ShardState). s.state.held) crash.shard) refl;
  }

-- ---- what holds of a shard through a run

-- it holds a packet of the pair, or one was handed on that belongs to it
abbrev pub IsKnown : NodeSetup → ℕ → List (ℕ × List ℕ) → ShardState → ℕ × List ℕ → Type 0
IsKnown setup index out shard pair = Contains (held_pairs shard.state) pair ⊎ (Contains out pair × (place_of setup pair.1 ≡ index))

-- Of a shard whose journal was `first` at the beginning, when these pairs were handed on: no pair that it holds stands twice,
-- belongs to another shard or was handed on; and what it knows is covered, and wasn't at first.
pub record IsTracked (setup : NodeSetup) (index : ℕ) (first : Journal) (out : List (ℕ × List ℕ)) (shard : ShardState) : Type 0 where
  pub charted : IsCharted shard
  pub single : (pair : ℕ × List ℕ) → times pair (held_pairs shard.state) ≤ 1
  pub placed : (pair : ℕ × List ℕ) → Contains (held_pairs shard.state) pair → place_of setup pair.1 ≡ index
  pub unsent : (pair : ℕ × List ℕ) → Contains (held_pairs shard.state) pair → Contains out pair → ⊥
  pub covered : (pair : ℕ × List ℕ) → IsKnown setup index out shard pair → AllCover shard.state.journal pair
  pub fresh : (pair : ℕ × List ℕ) → IsKnown setup index out shard pair → AllCover first pair → ⊥
  pub kept : KeepsCovered first shard.state.journal

module _ (setup : NodeSetup) (index : ℕ) (first : Journal) (out : List (ℕ × List ℕ)) where
  -- what a shard knows after an act it knew before, or all books cover it only since
  tracked_by : (out' : List (ℕ × List ℕ)) (old new : ShardState) → IsTracked setup index first out old → Goes old new
      → ((pair : ℕ × List ℕ) → times pair (held_pairs new.state) ≤ 1)
      → ((pair : ℕ × List ℕ) → Contains (held_pairs new.state) pair → place_of setup pair.1 ≡ index)
      → ((pair : ℕ × List ℕ) → Contains (held_pairs new.state) pair → Contains out' pair → ⊥)
      → ((pair : ℕ × List ℕ) → IsKnown setup index out' new pair
      → IsKnown setup index out old pair ⊎ ((AllCover old.state.journal pair → ⊥) × AllCover new.state.journal pair))
      → IsTracked setup index first out' new
  tracked_by out' old new was goes single placed unsent from = record {
    charted = goes.charted was.charted;
    single = single;
    placed = placed;
    unsent = unsent;
    covered = λ pair known. elim (from pair known) [
      | inl before ↦ goes.covered was.charted pair (was.covered pair before)
      | inr since ↦ since.1
    ];
    fresh = λ pair known at_first. elim (from pair known) [
      | inl before ↦ was.fresh pair before at_first
      | inr since ↦ since.0 (was.kept pair at_first)
    ];
    kept = λ pair at_first. goes.covered was.charted pair (was.kept pair at_first);
  }

  -- it holds what it held, or nothing
  tracked_keeps : (old new : ShardState) → IsTracked setup index first out old → Goes old new → new.state.held ≡ old.state.held → IsTracked setup index first out new
  tracked_keeps old new was goes same =
      let back : (pair : ℕ × List ℕ) → Contains (held_pairs new.state) pair → Contains (held_pairs old.state) pair =
      λ pair there. subst (λ (held : List Item). Contains (map pair_of held) pair) same there in
      tracked_by out old new was goes
      (λ pair. subst (λ (held : List Item). times pair (map pair_of held) ≤ 1) (sym same) (was.single pair))
      (λ pair there. was.placed pair (back pair there))
      (λ pair there. was.unsent pair (back pair there))
      (λ pair known. elim known [ inl there ↦ inl (inl (back pair there)) | inr sent ↦ inl (inr sent) ])

  tracked_empty : (old new : ShardState) → IsTracked setup index first out old → Goes old new → new.state.held ≡ [] → IsTracked setup index first out new
  tracked_empty old new was goes none =
      let nothing : (pair : ℕ × List ℕ) → Contains (held_pairs new.state) pair → ⊥ =
      λ pair there. none_in_empty pair (subst (λ (held : List Item). Contains (map pair_of held) pair) none there) in
      tracked_by out old new was goes
      (λ pair. subst (λ (held : List Item). times pair (map pair_of held) ≤ 1) (sym none) (omega arith))
      (λ pair there. absurd (nothing pair there))
      (λ pair there sent. nothing pair there)
      (λ pair known. elim known [ inl there ↦ absurd (nothing pair there) | inr sent ↦ inl (inr sent) ])

  -- it takes a packet
  tracked_takes : (old new : ShardState) (item : Item) → IsTracked setup index first out old → Goes old new → place_of setup item.tag ≡ index
      → IsPermutation (old.state.held ++ item ∷ []) new.state.held → (AllCover old.state.journal (pair_of item) → ⊥) → AllCover new.state.journal (pair_of item)
      → IsTracked setup index first out new
  tracked_takes old new item was goes place shuffled uncovered covers =
      let pairs : map pair_of (old.state.held ++ item ∷ []) ≡ held_pairs old.state ++ pair_of item ∷ [] = map-append pair_of old.state.held (item ∷ []) in
      let moved : IsPermutation (map pair_of (old.state.held ++ item ∷ [])) (held_pairs new.state) = IsPermutation-map pair_of (old.state.held ++ item ∷ []) new.state.held shuffled in
      let cases : (pair : ℕ × List ℕ) → Contains (held_pairs new.state) pair → Contains (held_pairs old.state) pair ⊎ (pair_of item ≡ pair) =
      λ pair there. Contains-push_cases (held_pairs old.state) (pair_of item) pair
      (subst (λ (ps : List (ℕ × List ℕ)). Contains ps pair) pairs
      (Contains-permutation (held_pairs new.state) (map pair_of (old.state.held ++ item ∷ [])) pair (IsPermutation-sym (map pair_of (old.state.held ++ item ∷ [])) (held_pairs new.state) moved) there)) in
      tracked_by out old new was goes
      (λ pair.
      subst (λ (n : ℕ). n ≤ 1) (sym (times_shuffled pair_of pair (old.state.held ++ item ∷ []) new.state.held shuffled ∙ ap (times pair) pairs))
      (once_more pair (pair_of item) (held_pairs old.state) (was.single pair) (λ there. uncovered (was.covered (pair_of item) (inl there)))))
      (λ pair there. elim (cases pair there) [
        | inl before ↦ was.placed pair before
        | inr same ↦ subst (λ (p : ℕ × List ℕ). place_of setup p.1 ≡ index) same place
      ])
      (λ pair there sent. elim (cases pair there) [
        | inl before ↦ was.unsent pair before sent
        | inr same ↦ uncovered (was.covered (pair_of item) (inr (subst (Contains out) (sym same) sent, place)))
      ])
      (λ pair known. elim known [
        | inl there ↦ elim (cases pair there) [
          | inl before ↦ inl (inl before)
          | inr same ↦ inr (subst (λ (p : ℕ × List ℕ). (AllCover old.state.journal p → ⊥) × AllCover new.state.journal p) same (uncovered, covers))
        ]
        | inr sent ↦ inl (inr sent)
      ])

  -- it gives one up
  tracked_gives : (old new : ShardState) (item : Item) → IsTracked setup index first out old → Goes old new → IsPermutation old.state.held (item ∷ new.state.held)
      → IsTracked setup index first (out ++ pair_of item ∷ []) new
  tracked_gives old new item was goes shuffled =
      let back : (pair : ℕ × List ℕ) → Contains (pair_of item ∷ held_pairs new.state) pair → Contains (held_pairs old.state) pair =
      λ pair there. Contains-permutation (pair_of item ∷ held_pairs new.state) (held_pairs old.state) pair
      (IsPermutation-sym (held_pairs old.state) (pair_of item ∷ held_pairs new.state) (IsPermutation-map pair_of old.state.held (item ∷ new.state.held) shuffled)) there in
      let behind : (pair : ℕ × List ℕ) → Contains (held_pairs new.state) pair → Contains (held_pairs old.state) pair =
      λ pair there. back pair (Contains-tail (pair_of item) (held_pairs new.state) pair there) in
      let single : (pair : ℕ × List ℕ) → times pair (pair_of item ∷ held_pairs new.state) ≤ 1 =
      λ pair. subst (λ (n : ℕ). n ≤ 1) (sym (times_shuffled pair_of pair old.state.held (item ∷ new.state.held) shuffled)) (was.single pair) in
      tracked_by (out ++ pair_of item ∷ []) old new was goes
      (λ pair. let fewer = fewer_behind pair (pair_of item) (held_pairs new.state) in let one = single pair in omega (arith, fewer, one))
      (λ pair there. was.placed pair (behind pair there))
      (λ pair there sent. elim (Contains-push_cases out (pair_of item) pair sent) [
        | inl before ↦ was.unsent pair (behind pair there) before
        | inr same ↦ not_behind (pair_of item) (held_pairs new.state) (single (pair_of item)) (subst (Contains (held_pairs new.state)) (sym same) there)
      ])
      (λ pair known. elim known [
        | inl there ↦ inl (inl (behind pair there))
        | inr sent ↦ elim (Contains-push_cases out (pair_of item) pair sent.0) [
          | inl before ↦ inl (inr (before, sent.1))
          | inr same ↦ inl (inl (subst (Contains (held_pairs old.state)) same (back (pair_of item) (Contains-head (pair_of item) (held_pairs new.state)))))
        ]
      ])

  -- when nothing more was handed on
  with_none : (sent : List (ℕ × List ℕ)) (shard : ShardState) → sent ≡ [] → IsTracked setup index first out shard → IsTracked setup index first (out ++ sent) shard
  with_none sent shard none is =
      subst (λ (o : List (ℕ × List ℕ)). IsTracked setup index first o shard) (sym (none_more out sent none)) is

  -- by what it does
  pub tracked_on : (sent : List (ℕ × List ℕ)) (old new : ShardState) → IsTracked setup index first out old → Goes old new → Holds setup index old new sent
      → IsTracked setup index first (out ++ sent) new
  tracked_on sent old new was goes (Keeps same none) = with_none sent new none (tracked_keeps old new was goes same)
  tracked_on sent old new was goes (Empties empty none) = with_none sent new none (tracked_empty old new was goes empty)
  tracked_on sent old new was goes (Takes item place shuffled uncovered covers none) =
      with_none sent new none (tracked_takes old new item was goes place shuffled uncovered covers)
  tracked_on sent old new was goes (Gives item shuffled one) =
      subst (λ (s : List (ℕ × List ℕ)). IsTracked setup index first (out ++ s) new) (sym one) (tracked_gives old new item was goes shuffled)

  -- what is handed on belongs to the shard, which held it
  pub sent_here : (sent : List (ℕ × List ℕ)) (old new : ShardState) → IsTracked setup index first out old → Holds setup index old new sent
      → (pair : ℕ × List ℕ) → Contains sent pair → Contains (held_pairs old.state) pair
  sent_here sent old new was (Keeps same none) pair there = absurd (none_in_empty pair (subst (λ (s : List (ℕ × List ℕ)). Contains s pair) none there))
  sent_here sent old new was (Empties empty none) pair there = absurd (none_in_empty pair (subst (λ (s : List (ℕ × List ℕ)). Contains s pair) none there))
  sent_here sent old new was (Takes item place shuffled uncovered covers none) pair there = absurd (none_in_empty pair (subst (λ (s : List (ℕ × List ℕ)). Contains s pair) none there))
  sent_here sent old new was (Gives item shuffled one) pair there =
      elim (Contains-push_cases [] (pair_of item) pair (subst (λ (s : List (ℕ × List ℕ)). Contains s pair) one there)) [
        | inl none ↦ absurd (none_in_empty pair none)
        | inr same ↦ subst (Contains (held_pairs old.state)) same
            (Contains-permutation (pair_of item ∷ held_pairs new.state) (held_pairs old.state) (pair_of item)
            (IsPermutation-sym (held_pairs old.state) (pair_of item ∷ held_pairs new.state) (IsPermutation-map pair_of old.state.held (item ∷ new.state.held) shuffled))
            (Contains-head (pair_of item) (held_pairs new.state)))
      ]

  -- what another shard hands on doesn't touch it
  pub tracked_beside : (sent : List (ℕ × List ℕ)) (shard : ShardState) → IsTracked setup index first out shard
      → ((pair : ℕ × List ℕ) → Contains sent pair → place_of setup pair.1 ≢ index) → IsTracked setup index first (out ++ sent) shard
  tracked_beside sent shard was elsewhere =
      let known_before : (pair : ℕ × List ℕ) → IsKnown setup index (out ++ sent) shard pair → IsKnown setup index out shard pair =
      λ pair known. elim known [
        | inl there ↦ inl there
        | inr handed ↦ elim (Contains-append_cases out sent pair handed.0) [
          | inl before ↦ inr (before, handed.1)
          | inr other ↦ absurd (elsewhere pair other handed.1)
        ]
      ] in
      record {
        charted = was.charted;
        single = was.single;
        placed = was.placed;
        unsent = λ pair there handed. elim (Contains-append_cases out sent pair handed) [
          | inl before ↦ was.unsent pair there before
          | inr other ↦ elsewhere pair other (was.placed pair there)
        ];
        covered = λ pair known. was.covered pair (known_before pair known);
        fresh = λ pair known. was.fresh pair (known_before pair known);
        kept = was.kept;
      }

-- ---- what a crash leaves

-- whatever it leaves covers what all books of the journal cover
pub image_covers : (shape : Shape) (limit : ℕ) (journal : Journal) (areas : Areas) (pair : ℕ × List ℕ) → OpensToOneOf shape limit journal.books areas → AllCover journal pair
    → (left : Left areas) → IsCovered (opened shape limit areas left) pair.0 pair.1
image_covers shape limit journal areas pair opens all left =
    All-contains (λ (book : Result StoredBook Objection). IsCovered book pair.0 pair.1) journal.books (opened shape limit areas left) all (opens left)

pub covers_all : (setup : NodeSetup) (index : ℕ) (shard : ShardState) (pairs : List (ℕ × List ℕ))
    → OpensToOneOf (shape_at setup index) setup.limit shard.state.journal.books shard.rack.areas
    → ((pair : ℕ × List ℕ) → Contains pairs pair → place_of setup pair.1 ≡ index → AllCover shard.state.journal pair) → CoversAll setup index shard.rack pairs
covers_all setup index shard pairs opens covered left =
    all_within (λ (pair : ℕ × List ℕ). place_of setup pair.1 ≡ index → IsCovered (opened (shape_at setup index) setup.limit shard.rack.areas left) pair.0 pair.1) pairs
    (λ pair there place. image_covers (shape_at setup index) setup.limit shard.state.journal shard.rack.areas pair opens (covered pair there place) left)
