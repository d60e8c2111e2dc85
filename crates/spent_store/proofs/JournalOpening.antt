-- What an opening makes of an unsound journal.
use Rattle.std.proofs.Common.{◌≡◌, inl, inr, ℕ, List, [], ◌∷◌, ◌++◌, map, Contains, Some, Result, Ok, Err, refl, sym, ap, subst, arith}
use Rattle.std.specs.Result.{IfOk, IfErr, result_err}
use Rattle.std.proofs.lemmas.List.Elements.{Contains-append_left, Contains-append_right}
use Rattle.mix_base.specs.declared.shards.Shape.{Shape}
use Rattle.replay_disk.specs.Disk.{Areas, ContentsAreImages}
use Rattle.spent_store.specs.Faults.{Refuses}
use Rattle.spent_store.specs.Books.{StoredBook}
use Rattle.spent_store.specs.Changes.{made, made_where_read}
use Rattle.spent_store.specs.Journals.{sound_with, unsound_with, unopened}
use Rattle.spent_store.specs.Found.{NothingNew}
use Rattle.spent_store.specs.Stores.{StoreState, Stands, OpensToOneOf, OpensFrom, IsOpening, as_read, book_in, opened}
use Rattle.spent_store.proofs.Finding.{from_nothing}
use Rattle.spent_store.specs.declared.faults.OpenStore.{OpenStore}
use Rattle.spent_store.specs.declared.faults.OpenStore.TheVariants as answer
use Rattle.spent_store.specs.declared.faults.Objection.{Objection}
use Rattle.spent_store.specs.declared.faults.Objection.TheVariants.{Foreign, OtherShape}
use Rattle.mix_base.proofs.Members.{Contains-map}
use Rattle.spent_store.proofs.Stages.{standing}

module _ (shape : Shape) (limit : ℕ) (old now : Areas) (images : ContentsAreImages old) (books : List (Result StoredBook Objection)) (covers : OpensToOneOf shape limit books old) where
  abbrev read : Result StoredBook Objection
  read = book_in old shape limit

  -- the book of the contents is one of them
  found : Contains books read
  found = covers (record { root = old.root.contents; one = old.one.contents; two = old.two.contents; is_root = images 0 (omega arith); is_one = images 1 (omega arith); is_two = images 2 (omega arith) })

  -- what may stand after an opening that didn't succeed
  left_unopened : OpensFrom shape limit old now → OpensToOneOf shape limit (unopened shape (unsound_with books)).books now
  left_unopened from left =
      let before = from left in
      let there = covers before.0 in
      elim before.1 [
        | inl same ↦ subst (λ (outcome : Result StoredBook Objection). Contains (books ++ map (made_where_read shape) books) outcome) (sym same) (Contains-append_left books (map (made_where_read shape) books) (opened shape limit old before.0) there)
        | inr is_made ↦
            subst (λ (outcome : Result StoredBook Objection). Contains (books ++ map (made_where_read shape) books) outcome) (sym is_made)
            (Contains-append_right books (map (made_where_read shape) books) (made_where_read shape (opened shape limit old before.0)) (Contains-map (made_where_read shape) books (opened shape limit old before.0) there))
      ]

  objected : (objection : Objection) (outcome : Result StoredBook Objection) → outcome ≡ read → result_err outcome ≡ Some objection → Contains books (Err objection)
  objected objection (Ok book) is against = absurd (cc)
  objected objection (Err other) is against =
      let same : other ≡ objection = cc in
      subst (λ (o : Objection). Contains books (Err o)) same (subst (λ (r : Result StoredBook Objection). Contains books r) (sym is) found)

  opened_book : (store : StoreState) (outcome : Result StoredBook Objection) → outcome ≡ read → made_where_read shape outcome ≡ Ok store.book → (book : StoredBook) × Contains books (Ok book) × (store.book ≡ made shape book)
  opened_book store (Ok book) is given = (book, subst (λ (r : Result StoredBook Objection). Contains books r) (sym is) found, cc)
  opened_book store (Err objection) is given = absurd (cc)

  pub journal_opened : (store : StoreState) → store.shape ≡ shape → store.limit ≡ limit → made_where_read shape read ≡ Ok store.book → Stands store now → IsOpening shape limit books (Ok store) now
  journal_opened store is_shape is_limit given stands =
      let one = opened_book store read refl given in
      let stood = subst (λ (l : ℕ). OpensToOneOf shape l (as_read (store.book ∷ [])) now) is_limit (subst (λ (s : Shape). OpensToOneOf s store.limit (as_read (store.book ∷ [])) now) is_shape (standing store now stands)) in
      record { journal = sound_with store.book; opens = (one.0, one.1, ap sound_with one.2); of_store = refl; covers = stood }

  -- nothing was written
  pub journal_kept : (result : Result StoreState OpenStore) → IfOk result (λ _. ⊥) → IfErr result (λ fault. Refuses fault (result_err read)) → (epochs : List ℕ) → NothingNew epochs old now → IsOpening shape limit books result now
  journal_kept (Ok store) never refuses epochs nothing = absurd never
  journal_kept (Err (answer.Foreign area at)) never refuses epochs nothing = record {
    journal = unopened shape (unsound_with books);
    opens = (objected (Foreign area at) read refl refuses, refl);
    of_store = tt;
    covers = left_unopened (from_nothing shape limit epochs old now nothing);
  }
  journal_kept (Err (answer.OtherShape stored)) never refuses epochs nothing = record {
    journal = unopened shape (unsound_with books);
    opens = (objected (OtherShape stored) read refl refuses, refl);
    of_store = tt;
    covers = left_unopened (from_nothing shape limit epochs old now nothing);
  }
  journal_kept (Err answer.Failed) never refuses epochs nothing = record {
    journal = unopened shape (unsound_with books);
    opens = refl;
    of_store = tt;
    covers = left_unopened (from_nothing shape limit epochs old now nothing);
  }
  journal_kept (Err answer.Memory) never refuses epochs nothing = record {
    journal = unsound_with books;
    opens = refl;
    of_store = tt;
    covers = λ left. covers (record {
      root = left.root;
      one = left.one;
      two = left.two;
      is_root = nothing.images 0 (omega arith) left.root left.is_root;
      is_one = nothing.images 1 (omega arith) left.one left.is_one;
      is_two = nothing.images 2 (omega arith) left.two left.is_two;
    });
  }

  -- the rack failed in a write
  pub journal_failed : OpensFrom shape limit old now → IsOpening shape limit books (Err answer.Failed) now
  journal_failed from = record { journal = unopened shape (unsound_with books); opens = refl; of_store = tt; covers = left_unopened from }
