-- One turn at a shard: what was added to its tale is what the pass made, and the shard's origin stays.
use Rattle.std.proofs.Common.{◌≡◌, ℕ, zero, suc, ◌==◌, ◌||◌, Bool, true, false, List, [], ◌∷◌, ◌++◌, refl, sym, ap, subst, ◌∙◌, ⊎_elim, inl, arith, Option, Some, None}
use Rattle.std.specs.Prelude.{All, cond}
use Rattle.std.proofs.lemmas.List.{append-nil}
use Rattle.std.proofs.lemmas.List.Folds.{list_any-append}
use Rattle.std.proofs.lemmas.List.Elements.{All-append}
use Rattle.mix_base.specs.Suites.{SuiteMeaning}
use Rattle.replay_disk.specs.Disk.{RackState}
use Rattle.mix_shard.specs.Entries.{caller_of}
use Rattle.mix_shard.specs.Items.{Item, destination}
use Rattle.mix_shard.specs.Origins.{origin_of}
use Rattle.mix_shard.specs.Shards.{Adds, BeganAlike, IsClaimEntry, IsEntry, IsOpeningBy, IsRotateEntry, ShardState}
use Rattle.mix_shard.specs.declared.entries.Answer.{Answer}
use Rattle.mix_shard.specs.declared.entries.Entry.{Entry}
use Rattle.mix_shard.specs.declared.entries.Entry.TheVariants.{Claim, Take, Rotate, Done, Reopened}
use Rattle.mix_shard.specs.declared.entries.Told.{Told}
use Rattle.mix_shard.specs.declared.terms.Terms.{Terms}
use Rattle.turn_lock.specs.Seen.{Caller, IsIdle, Lock, holding, resting}
use Rattle.turn_lock.specs.Stories.{after, Begins, entries_by}
use Rattle.turn_lock.proofs.Lists.{after_whole, longer_begins}
use Rattle.node_actors.specs.Calls.{ends_by, has_ended, terms_in}
use Rattle.node_actors.specs.Found.{IsNoPacket, IsTakenBy}
use Rattle.node_actors.specs.Turns.{TakesTurn}
use Rattle.node_actors.specs.declared.actors.turns.Found.{Found}
use Rattle.node_actors.specs.declared.actors.turns.Found.TheVariants as kinds

-- ---- the origin

pub same_origin : (old new : ShardState) → BeganAlike old new → new.rack.arms ≡ old.rack.arms → new.rack.crashes ≡ old.rack.crashes → origin_of new ≡ origin_of old
same_origin old new began arms crashes =
    let spell : Terms → ℕ → RackState → List ℕ → List ℕ → List (List ℕ) = λ terms faults first arms crashes.
    origin_of (record old { terms = terms; faults = faults; first = first; rack = record old.rack { arms = arms; crashes = crashes } }) in
    ap (λ (t : Terms). spell t new.faults new.first new.rack.arms new.rack.crashes) began.terms
    ∙ (ap (λ (n : ℕ). spell old.terms n new.first new.rack.arms new.rack.crashes) began.faults
    ∙ (ap (λ (r : RackState). spell old.terms old.faults r new.rack.arms new.rack.crashes) began.first
    ∙ (ap (λ (l : List ℕ). spell old.terms old.faults old.first l new.rack.crashes) arms
    ∙ ap (λ (l : List ℕ). spell old.terms old.faults old.first old.rack.arms l) crashes)))

-- ---- who has ended

ends_none : (c : ℕ) (entry : Entry) → (caller_of entry == c) ≡ false → ends_by c entry ≡ false
ends_none c (Claim caller number epoch tag at answer) other = refl
ends_none c (Take caller number dest moment) other = refl
ends_none c (Rotate caller moment answer) other = refl
ends_none c (Done caller) other = other
ends_none c (Reopened caller floor spent) other = refl

other_first : (c : ℕ) (told : Told) (rest : List Told) (b : Bool) → (caller_of told.entry == c) ≡ b → cond b (told ∷ rest) rest ≡ []
    → (ends_by c told.entry ≡ false) × (rest ≡ [])
other_first c told rest true is none = absurd (cc none)
other_first c told rest false is none = (ends_none c told.entry is, none)

not_yet : (c : ℕ) (tale : List Told) → entries_by (λ (t : Told). caller_of t.entry) c tale ≡ [] → has_ended c tale ≡ false
not_yet c [] none = refl
not_yet c (told ∷ tale) none =
    let first = other_first c told (entries_by (λ (t : Told). caller_of t.entry) c tale) (caller_of told.entry == c) refl none in
    ap (λ (b : Bool). b || has_ended c tale) first.0 ∙ not_yet c tale first.1

opening_ends_none : (c : ℕ) (opening : List Told) → IsOpeningBy c opening → has_ended c opening ≡ false
opening_ends_none c opening by =
    ⊎_elim
    (λ (none : opening ≡ []). ap (λ (tale : List Told). has_ended c tale) none)
    (λ (h : (told : Told) × (floor : ℕ) × (pairs : ℕ) × (opening ≡ told ∷ []) × (told.entry ≡ Reopened c floor pairs)).
    ap (λ (tale : List Told). has_ended c tale) h.3 ∙ ap (λ (entry : Entry). ends_by c entry || false) h.4)
    by

or_shift : (a b : Bool) → (a || (false || b)) ≡ (b || a)
or_shift true true = refl
or_shift true false = refl
or_shift false true = refl
or_shift false false = refl

or_none : (a : Bool) → (a || false) ≡ a
or_none true = refl
or_none false = refl

-- ---- each entry is the caller's

abbrev pub AreBy : ℕ → List Told → Type 0
AreBy c tale = All (λ (t : Told). caller_of t.entry ≡ c) tale

none_by : (c : ℕ) → AreBy c []
none_by c k d l = absurd (omega arith)

one_by : (c : ℕ) (told : Told) → caller_of told.entry ≡ c → AreBy c (told ∷ [])
one_by c told is zero d l = is
one_by c told is (suc k) d l = absurd (omega arith)

opening_by : (c : ℕ) (opening : List Told) → IsOpeningBy c opening → AreBy c opening
opening_by c opening by =
    ⊎_elim
    (λ (none : opening ≡ []). subst (λ (tale : List Told). AreBy c tale) (sym none) (none_by c))
    (λ (h : (told : Told) × (floor : ℕ) × (pairs : ℕ) × (opening ≡ told ∷ []) × (told.entry ≡ Reopened c floor pairs)).
    subst (λ (tale : List Told). AreBy c tale) (sym h.3) (one_by c h.0 (ap caller_of h.4)))
    by

pub claim_by : (c : ℕ) (item : Item) (answer : Option Answer) (own : List Told) → IsClaimEntry c item answer own → AreBy c own
claim_by c item None own none = subst (λ (tale : List Told). AreBy c tale) (sym none) (none_by c)
claim_by c item (Some answer) own h = subst (λ (tale : List Told). AreBy c tale) (sym h.1) (one_by c h.0 (ap caller_of h.2))

pub rotate_by : (c moment : ℕ) (answer : Option Answer) (own : List Told) → IsRotateEntry c moment answer own → AreBy c own
rotate_by c moment None own none = subst (λ (tale : List Told). AreBy c tale) (sym none) (none_by c)
rotate_by c moment (Some answer) own h = subst (λ (tale : List Told). AreBy c tale) (sym h.1) (one_by c h.0 (ap caller_of h.2))

pub entry_by : (c : ℕ) (one : Entry) (own : List Told) → caller_of one ≡ c → IsEntry one own → AreBy c own
entry_by c one own is h = subst (λ (tale : List Told). AreBy c tale) (sym h.1) (one_by c h.0 (ap caller_of h.2 ∙ is))

-- ---- the turn

module _ (tells : Type 0) (suite : SuiteMeaning) (lock : Lock Told) (caller : ℕ) (Own : List Told → Type 0) (pass : Caller Told) (old new : ShardState) (adds : Adds tells suite caller Own old new) where
  added : List Told
  added = adds.opening ++ adds.own

  pub grew : (seen : List Told) → seen ≡ old.told → Begins seen new.told
  grew seen is = (adds.opening ++ adds.own, ap (λ (tale : List Told). tale ++ (adds.opening ++ adds.own)) is ∙ sym adds.told)

  behind : after old.told new.told ≡ adds.opening ++ adds.own
  behind = after_whole old.told (adds.opening ++ adds.own) new.told (sym adds.told)

  pub by_caller : (held : Caller Told) → held ≡ holding pass old.told → pass.number ≡ caller → AreBy caller adds.own → AreBy held.number (after held.seen new.told)
  by_caller held taken number own =
      let is : held.seen ≡ old.told = ap (λ (p : Caller Told). p.seen) taken in
      let named : caller ≡ held.number = sym (ap (λ (p : Caller Told). p.number) taken ∙ number) in
      subst (λ (n : ℕ). AreBy n (after held.seen new.told)) named
      (subst (λ (tale : List Told). AreBy caller tale) (sym (ap (λ (tale : List Told). after tale new.told) is ∙ behind))
      (All-append (λ (t : Told). caller_of t.entry ≡ caller) adds.opening adds.own (opening_by caller adds.opening adds.by_caller) own))

  pub turned : (held given : Caller Told) → IsIdle lock caller pass → Begins pass.seen old.told → entries_by (λ (t : Told). caller_of t.entry) pass.number (after pass.seen old.told) ≡ []
      → held ≡ holding pass old.told → given ≡ resting held new.told → TakesTurn lock caller Own pass given
  turned held given idle begins by_number taken gave = let others = subst (λ (n : ℕ). entries_by (λ (t : Told). caller_of t.entry) n (after pass.seen old.told) ≡ []) idle.2 by_number in let is : given ≡ resting (holding pass old.told) new.told = gave ∙ ap (λ (p : Caller Told). resting p new.told) taken in record {
    idle = subst (λ (p : Caller Told). IsIdle lock caller p) (sym is) (idle.0, refl, idle.2);
    opening = adds.opening;
    by_caller = adds.by_caller;
    own = adds.own;
    own_is = adds.own_is;
    made = ap (λ (p : Caller Told). p.made) is ∙ ap (λ (more : List Told). pass.made ++ more) behind;
    saw = longer_begins pass.seen old.told (adds.opening ++ adds.own) given.seen (sym adds.told ∙ sym (ap (λ (p : Caller Told). p.seen) is)) begins;
    ended =
        let ends : Told → Bool = λ told. ends_by caller told.entry in
        let opened : has_ended caller adds.opening ≡ false = opening_ends_none caller adds.opening adds.by_caller in
        let so_far : has_ended caller old.told ≡ has_ended caller pass.seen =
        ap (λ (tale : List Told). has_ended caller tale) (sym begins.1)
        ∙ (list_any-append ends pass.seen begins.0
        ∙ (ap (λ (b : Bool). has_ended caller pass.seen || b) (not_yet caller begins.0 (ap (λ (tale : List Told). entries_by (λ (t : Told). caller_of t.entry) caller tale) (sym (after_whole pass.seen begins.0 old.told begins.1)) ∙ others))
        ∙ or_none (has_ended caller pass.seen))) in
        ap (λ (p : Caller Told). has_ended caller p.seen) is
        ∙ (ap (λ (tale : List Told). has_ended caller tale) adds.told
        ∙ (list_any-append ends old.told (adds.opening ++ adds.own)
        ∙ (ap (λ (b : Bool). has_ended caller old.told || b) (list_any-append ends adds.opening adds.own ∙ ap (λ (b : Bool). b || has_ended caller adds.own) opened)
        ∙ (ap (λ (b : Bool). b || (false || has_ended caller adds.own)) so_far
        ∙ or_shift (has_ended caller pass.seen) (has_ended caller adds.own)))));
  }

-- the terms of a shard that came out of its lock are those that its origin spells
pub terms_are : (lock : Lock Told) (shard : ShardState) → origin_of shard ≡ lock.origin → shard.terms ≡ terms_in lock.origin
terms_are lock shard origin = ap terms_in origin

-- who hadn't ended in what the pass has seen hasn't ended now
pub still_open : (number caller : ℕ) (seen told : List Told) → number ≡ caller → Begins seen told → entries_by (λ (t : Told). caller_of t.entry) number (after seen told) ≡ []
    → has_ended caller seen ≡ false → has_ended caller told ≡ false
still_open number caller seen told is begins by_number open_before =
    let others = subst (λ (n : ℕ). entries_by (λ (t : Told). caller_of t.entry) n (after seen told) ≡ []) is by_number in
    ap (λ (tale : List Told). has_ended caller tale) (sym begins.1)
    ∙ (list_any-append (λ (told : Told). ends_by caller told.entry) seen begins.0
    ∙ (ap (λ (b : Bool). b || has_ended caller begins.0) open_before
    ∙ not_yet caller begins.0 (ap (λ (tale : List Told). entries_by (λ (t : Told). caller_of t.entry) caller tale) (sym (after_whole seen begins.0 told begins.1)) ∙ others)))

-- a call that added nothing
pub adds_none : (tells : Type 0) (suite : SuiteMeaning) (caller : ℕ) (Own : List Told → Type 0) (shard : ShardState) → Own [] → Adds tells suite caller Own shard shard
adds_none tells suite caller Own shard own = record {
  began = record { terms = refl; first = refl; faults = refl };
  opening = [];
  by_caller = inl refl;
  own = [];
  own_is = own;
  told = sym (append-nil shard.told);
  steps = refl;
}

-- the same call, by another word for its own entries
pub adds_as : (tells : Type 0) (suite : SuiteMeaning) (caller : ℕ) (Own Other : List Told → Type 0) (old new : ShardState) → ((own : List Told) → Own own → Other own)
    → Adds tells suite caller Own old new → Adds tells suite caller Other old new
adds_as tells suite caller Own Other old new weaker adds = record {
  began = adds.began;
  opening = adds.opening;
  by_caller = adds.by_caller;
  own = adds.own;
  own_is = weaker adds.own adds.own_is;
  told = adds.told;
  steps = adds.steps;
}

-- a call that changed nothing
pub adds_same : (tells : Type 0) (suite : SuiteMeaning) (caller : ℕ) (Own : List Told → Type 0) (old new : ShardState) → Own [] → new ≡ old → Adds tells suite caller Own old new
adds_same tells suite caller Own old new own same = subst (λ (s : ShardState). Adds tells suite caller Own old s) (sym same) (adds_none tells suite caller Own old own)

pub found_by : (caller moment : ℕ) (found : Found Item) (own : List Told) → IsTakenBy caller moment found own → AreBy caller own
found_by caller moment (kinds.Packet item) own h = entry_by caller (Take caller item.number (destination item.out) moment) own refl h
found_by caller moment kinds.Waiting own none = subst (λ (tale : List Told). AreBy caller tale) (sym none) (none_by caller)
found_by caller moment kinds.Empty own none = subst (λ (tale : List Told). AreBy caller tale) (sym none) (none_by caller)
found_by caller moment kinds.Drained own none = subst (λ (tale : List Told). AreBy caller tale) (sym none) (none_by caller)

pub nothing_found : (caller moment : ℕ) (found : Found Item) → IsNoPacket found → IsTakenBy caller moment found []
nothing_found caller moment (kinds.Packet item) none = absurd none
nothing_found caller moment kinds.Waiting none = refl
nothing_found caller moment kinds.Empty none = refl
nothing_found caller moment kinds.Drained none = refl
