-- A shard to which nothing was done, and whose journal was made ready.
use Rattle.std.proofs.Common.{◌≡◌, ◌⊎◌, ℕ, true, false, List, [], ◌∷◌, ◌++◌, Result, Ok, Contains, inl, inr, refl, sym, ap, subst, ◌∙◌, arith}
use Rattle.mix_base.specs.Suites.{SuiteMeaning}
use Rattle.mix_base.specs.declared.shards.Shape.{Shape}
use Rattle.replay_disk.specs.Disk.{Owes, RackState}
use Rattle.spent_store.specs.Books.{StoredBook}
use Rattle.spent_store.specs.Changes.{made}
use Rattle.spent_store.specs.Journals.{Journal, sound_with}
use Rattle.spent_store.specs.Stores.{book_in}
use Rattle.spent_store.specs.declared.faults.Objection.{Objection}
use Rattle.spent_store.specs.declared.summary.Book.{Book}
use Rattle.std.proofs.lemmas.List.{append-nil}
use Rattle.turn_lock.proofs.Lists.{in_one}
use Rattle.mix_shard.specs.Shards.{IsKept, IsOpeningBy, IsReady, ShardState, new_shard}
use Rattle.mix_shard.specs.Tale.{Reopens, Says, State, Steps, began}
use Rattle.mix_shard.specs.declared.entries.Entry.{Entry}
use Rattle.mix_shard.specs.declared.entries.Entry.TheVariants.{Reopened}
use Rattle.mix_shard.specs.declared.entries.Told.{Told}
use Rattle.mix_shard.specs.declared.terms.Terms.{Terms}
use Rattle.net_run.specs.Opening.{IsFresh, IsOpened, IsOpening, book_at, shape_at, terms_at}
use Rattle.net_run.specs.declared.opening.NodePlan.{NodePlan}

module _ (tells : Type 0) (suite : SuiteMeaning) (terms : Terms) (rack : RackState) where
  -- what an opening told, and the state that it led to
  record HasOpened (told : List Told) (state : State) : Type 0 where
    opening : IsOpening told
    book : StoredBook
    state_is : state ≡ record (began terms rack.areas) { journal = sound_with book }
    read : tells → (said : StoredBook) × (book_in rack.areas terms.shape terms.limit ≡ Ok said) × (book ≡ made terms.shape said)

  sound_differs : (stored : StoredBook) (state : State) → state ≡ began terms rack.areas → state.journal ≡ sound_with stored → ⊥
  sound_differs stored state is sound =
      let e : false ≡ true = ap (λ (j : Journal). j.is_sound) (sym (ap (λ (s : State). s.journal) is) ∙ sound) in
      cc

  same_book : (book said : StoredBook) → sound_with book ≡ sound_with said → book ≡ said
  same_book book said same =
      let e : the_books book ≡ the_books said = ap (λ (j : Journal). j.books) same in
      cc
    where
      the_books : StoredBook → List (Result StoredBook Objection)
      the_books b = (sound_with b).books

  opened_by : (stored : StoredBook) (told : List Told) (state : State) → IsOpeningBy 0 told → Steps tells suite terms (began terms rack.areas) told state
      → state.journal ≡ sound_with stored → HasOpened told state
  opened_by stored told state (inl none) steps sound =
      absurd (sound_differs stored state (subst (λ ts. Steps tells suite terms (began terms rack.areas) ts state) none steps) sound)
  opened_by stored told state (inr one) steps sound =
      let stepped = subst (λ ts. Steps tells suite terms (began terms rack.areas) ts state) one.3 steps in
      let reopens : Reopens tells terms one.1 one.2 (began terms rack.areas) stepped.0 =
      subst (λ (e : Entry). Says tells suite terms one.0 e (began terms rack.areas) stepped.0) one.4 stepped.1 in
      record {
        opening = record { entry = one.0; floor = one.1; pairs = one.2; only = one.3; entry_is = one.4 };
        book = reopens.book;
        state_is = stepped.2 ∙ reopens.new_is;
        read = λ told_it. let opens = reopens.opens told_it in (
          opens.0,
          in_one (book_in rack.areas terms.shape terms.limit) (Ok opens.0) opens.1,
          same_book reopens.book (made terms.shape opens.0) opens.2,
        );
      }

-- what was added to an empty tale
all_added : (told opening own : List Told) → told ≡ [] ++ (opening ++ own) → own ≡ [] → told ≡ opening
all_added told opening own is none = is ∙ ap (λ (ts : List Told). opening ++ ts) none ∙ append-nil opening

pub opened_on : (tells : Type 0) (suite : SuiteMeaning) (plan : NodePlan) (shape : Shape) (book : Book) (most : ℕ) (failed : Type 0) (old new : ShardState) → IsFresh plan shape old
    → IsReady tells suite 0 book old new → Owes most failed old.rack new.rack → IsKept tells suite new → IsOpened tells suite plan shape.index old.rack new
opened_on tells suite plan shape book most failed old new fresh ready owes kept =
    let terms = terms_at plan shape.index in
    let on = subst (λ (o : ShardState). IsReady tells suite 0 book o new) fresh.fresh ready in
    let adds = on.adds in
    let told = all_added new.told adds.opening adds.own adds.told adds.own_is in
    let steps : Steps tells suite terms (began terms old.rack.areas) adds.opening new.state =
    subst (λ (ts : List Told). Steps tells suite terms (began terms old.rack.areas) ts new.state) (ap (λ (ts : List Told). adds.opening ++ ts) adds.own_is ∙ append-nil adds.opening) adds.steps in
    let has = opened_by tells suite terms old.rack on.stored adds.opening new.state adds.by_caller steps on.sound in
    record {
      began_on = record { terms = adds.began.terms; first = adds.began.first; faults = adds.began.faults };
      opening = subst (λ (ts : List Told). IsOpening ts) (sym told) has.opening;
      book = has.book;
      state = has.state_is;
      read = has.read;
      arms = owes.arms;
      crashes = owes.crashes;
      kept = kept;
    }
