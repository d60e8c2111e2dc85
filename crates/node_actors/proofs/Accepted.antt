-- What a shard holds was accepted by its tale.
use Rattle.std.proofs.Common.{◌≡◌, ◌⊎◌, ℕ, List, [], ◌∷◌, ◌++◌, refl, sym, ap, subst, ◌∙◌, inl, inr, ⊎_elim, arith, Result, Ok, Err}
use Rattle.std.specs.Prelude.{Contains}
use Rattle.std.proofs.lemmas.List.Elements.{Contains-append_cases}
use Rattle.std.proofs.lemmas.List.Sorted.{Contains-permutation, IsPermutation-sym}
use Rattle.mix_base.specs.Suites.{SuiteMeaning}
use Rattle.mix_base.proofs.Members.{Contains-head, none_in_empty}
use Rattle.spent_store.specs.declared.faults.ClaimFault.{ClaimFault}
use Rattle.mix_shard.specs.Entries.{claim_answer}
use Rattle.mix_shard.specs.Items.{Item}
use Rattle.mix_shard.specs.Origins.{origin_of}
use Rattle.mix_shard.specs.Shards.{Adds, IsKept, ShardState}
use Rattle.mix_shard.specs.Tale.{began, ClaimsItem, HeldAfter, IsItemOf, Rotates, Says, State, StaysUnsound, Tale}
use Rattle.mix_shard.specs.declared.entries.Answer.{Answer}
use Rattle.mix_shard.specs.declared.entries.Answer.TheVariants.{Taken}
use Rattle.mix_shard.specs.declared.entries.Entry.{Entry}
use Rattle.mix_shard.specs.declared.entries.Entry.TheVariants.{Claim, Take, Rotate, Done, Reopened}
use Rattle.mix_shard.specs.declared.entries.Told.{Told}
use Rattle.mix_shard.specs.declared.terms.Terms.{Terms}
use Rattle.turn_lock.specs.Seen.{Caller, Lock}
use Rattle.turn_lock.specs.Stories.{after, Begins}
use Rattle.turn_lock.proofs.Lists.{after_whole, cons_in, in_one, longer_begins}
use Rattle.node_actors.specs.Calls.{HoldsNothing, terms_in}
use Rattle.node_actors.specs.Found.{IfFound}
use Rattle.node_actors.specs.Takings.{IsAcceptanceOf, WasAccepted}
use Rattle.node_actors.specs.declared.actors.turns.Found.{Found}
use Rattle.node_actors.specs.declared.actors.turns.Found.TheVariants as kinds
use Rattle.node_actors.proofs.Drained.{no_items}
use Rattle.node_actors.proofs.TakeLogs.{accepted_still}
use Rattle.node_actors.proofs.Tallies.{tale_held, tale_split}
use Rattle.node_actors.proofs.Turning.{terms_are}

module _ (tells : Type 0) (suite : SuiteMeaning) (terms : Terms) (item : Item) where
  -- it was accepted by one of these entries, under the setup of the tale
  abbrev Came : (Item → Type 0) → Type 0
  Came Accepted = Accepted item × (item.setup ≡ terms.setup)

  -- an item that is held was held before this entry, or was accepted by it
  abbrev CameBy : Told → State → State → Type 0
  CameBy told old new = Contains new.held item → Contains old.held item ⊎ Came (λ x. IsAcceptanceOf x told)

  same_held : (told : Told) (old new : State) → new.held ≡ old.held → CameBy told old new
  same_held told old new same here = inl (subst (λ (items : List Item). Contains items item) same here)

  claimed : (told : Told) (caller number epoch : ℕ) (tag : List ℕ) (at : ℕ) (answer : Answer) (one : Item) (old new : State) (result : Result (Unit {0}) ClaimFault)
      → told.entry ≡ Claim caller number epoch tag at answer → answer ≡ claim_answer result → IsItemOf suite terms number epoch tag at told one
      → HeldAfter result one old.held new.held → CameBy told old new
  claimed told caller number epoch tag at answer one old new (Err fault) entry_is answer_is of held here = same_held told old new held here
  claimed told caller number epoch tag at answer one old new (Ok u) entry_is answer_is of held here =
      let accepted : IsAcceptanceOf one told = record {
        caller = caller;
        entry_is = entry_is
            ∙ (ap (Claim caller number epoch tag at) answer_is
            ∙ (ap (λ (n : ℕ). Claim caller n epoch tag at Taken) (sym of.number_is)
            ∙ (ap (λ (n : ℕ). Claim caller one.number n tag at Taken) (sym of.epoch_is)
            ∙ (ap (λ (t : List ℕ). Claim caller one.number one.epoch t at Taken) (sym of.tag_is)
            ∙ ap (λ (n : ℕ). Claim caller one.number one.epoch one.tag n Taken) (sym of.at_is)))));
        packet_is = of.packet;
      } in
      ⊎_elim
      (λ (before : Contains old.held item). inl before)
      (λ (last : Contains (one ∷ []) item).
      inr (subst (λ (x : Item). IsAcceptanceOf x told × (x.setup ≡ terms.setup)) (in_one one item last) (accepted, of.setup)))
      (Contains-append_cases old.held (one ∷ []) item (Contains-permutation new.held (old.held ++ one ∷ []) item (IsPermutation-sym (old.held ++ one ∷ []) new.held held) here))

  says_came : (told : Told) (entry : Entry) (old new : State) → told.entry ≡ entry → Says tells suite terms told entry old new → CameBy told old new
  says_came told (Claim caller number epoch tag at answer) old new is says =
      ⊎_elim
      (λ (h : ClaimsItem terms says.1 answer old new). claimed told caller number epoch tag at answer says.1 old new h.result is h.answer_is says.2 h.held)
      (λ (h : StaysUnsound tells terms answer old new). same_held told old new (ap (λ (s : State). s.held) h.new_is))
      says.3
  says_came told (Take caller number dest moment) old new is says = λ here.
      inl (Contains-permutation (says.item ∷ new.held) old.held item (IsPermutation-sym old.held (says.item ∷ new.held) says.rest) (cons_in says.item new.held item here))
  says_came told (Rotate caller moment answer) old new is says =
      same_held told old new
      (⊎_elim (λ (h : Rotates terms moment answer old new). h.held) (λ (h : StaysUnsound tells terms answer old new). ap (λ (s : State). s.held) h.new_is) says)
  says_came told (Done who) old new is says = same_held told old new (ap (λ (s : State). s.held) says.1)
  says_came told (Reopened caller floor pairs) old new is says = same_held told old new (ap (λ (s : State). s.held) says.new_is)

  tale_came : (old new : State) (tale : List Told) → Tale tells suite terms old tale new → Contains new.held item → Contains old.held item ⊎ Came (WasAccepted tale)
  tale_came old new [] unheard here = inl (subst (λ (s : State). Contains s.held item) unheard.new_is here)
  tale_came old new (told ∷ others) tale here =
      ⊎_elim
      (λ (then : Contains tale.1.held item).
      ⊎_elim
      (λ (before : Contains tale.0.held item). inl (subst (λ (s : State). Contains s.held item) tale.2.new_is before))
      (λ (now : Came (λ x. IsAcceptanceOf x told)). inr ((told, Contains-head told others, now.0), now.1))
      (says_came told told.entry tale.0 tale.1 refl tale.3 then))
      (λ (later : Came (WasAccepted others)). inr ((later.0.0, cons_in told others later.0.0 later.0.1, later.0.2), later.1))
      (tale_came tale.1 new others tale.4 here)

-- where nothing was held at a moment of the tale, what is held now was accepted since
pub accepted_since : (tells : Type 0) (suite : SuiteMeaning) (shard : ShardState) → IsKept tells suite shard → (story : List Told) → Begins story shard.told → HoldsNothing story
    → (item : Item) → Contains shard.state.held item → WasAccepted (after story shard.told) item × (item.setup ≡ shard.terms.setup)
accepted_since tells suite shard kept story begins nothing item here =
    let terms = shard.terms in
    let start = began terms shard.first.areas in
    let told : Tale tells suite terms start (story ++ begins.0) shard.state =
    subst (λ (tale : List Told). Tale tells suite terms start tale shard.state) (sym begins.1) kept.tale in
    let parts = tale_split tells suite terms start shard.state story begins.0 told in
    let held = tale_held tells suite terms start parts.0 story parts.1 in
    let none : parts.0.held ≡ [] = no_items parts.0.held (omega (arith, held, nothing)) in
    let behind : after story shard.told ≡ begins.0 = after_whole story begins.0 shard.told begins.1 in
    ⊎_elim
    (λ (before : Contains parts.0.held item). absurd (none_in_empty item (subst (λ (items : List Item). Contains items item) none before)))
    (λ (since : WasAccepted begins.0 item × (item.setup ≡ terms.setup)). (subst (λ (tale : List Told). WasAccepted tale item) (sym behind) since.0, since.1))
    (tale_came tells suite terms item parts.0 shard.state begins.0 parts.2 here)

-- what was found at a shard was accepted there since its lock was made, under the setup that the lock spells
module _ (tells : Type 0) (suite : SuiteMeaning) (lock : Lock Told) (pass : Caller Told) (old : ShardState) (kept : IsKept tells suite old)
    (saw : Begins lock.story pass.seen) (begins : Begins pass.seen old.told) (nothing : HoldsNothing lock.story) where
  here_since : (item : Item) → Contains old.state.held item → WasAccepted (after lock.story old.told) item × (item.setup ≡ old.terms.setup)
  here_since item here = accepted_since tells suite old kept lock.story (longer_begins lock.story pass.seen begins.0 old.told begins.1 saw) nothing item here

  pub found_since : (caller : ℕ) (Own : List Told → Type 0) (given : Caller Told) (new : ShardState) → Adds tells suite caller Own old new → given.seen ≡ new.told
      → (found : Found Item) → IfFound found (Contains old.state.held) → IfFound found (WasAccepted (after lock.story given.seen))
  found_since caller Own given new adds seen (kinds.Packet item) here =
      subst (λ (tale : List Told). WasAccepted (after lock.story tale) item) (sym seen)
      (accepted_still lock.story old.told new.told item (adds.opening ++ adds.own, sym adds.told) (here_since item here).0)
  found_since caller Own given new adds seen kinds.Waiting here = tt
  found_since caller Own given new adds seen kinds.Empty here = tt
  found_since caller Own given new adds seen kinds.Drained here = tt

  pub found_under : origin_of old ≡ lock.origin → (found : Found Item) → IfFound found (Contains old.state.held) → IfFound found (λ item. item.setup ≡ (terms_in lock.origin).setup)
  found_under origin (kinds.Packet item) here = (here_since item here).1 ∙ ap (λ (t : Terms). t.setup) (terms_are lock old origin)
  found_under origin kinds.Waiting here = tt
  found_under origin kinds.Empty here = tt
  found_under origin kinds.Drained here = tt
