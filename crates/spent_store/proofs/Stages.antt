-- What a crash may leave of a store that stands on a rack while one of its areas is written, and what stands there
-- once it was.
use Rattle.std.proofs.Common.{◌≡◌, ◌≢◌, inl, inr, ◌⊎◌, ℕ, ◌+◌, ◌%◌, ◌^◌, ◌<◌, ◌≤◌, ◌==◌, nat_le, Bool, true, false, List, [], ◌∷◌, ◌++◌, length, filter, Contains, Result, Ok, refl, sym, ◌∙◌, ap, subst, arith}
use Rattle.std.specs.List.{list_any}
use Rattle.std.proofs.lemmas.Bool.{cases_lt, cases_eq, cases_Bool, eqb-true, eq-eqb, or_left, or_right, or_cases}
use Rattle.std.proofs.lemmas.List.{length-append}
use Rattle.std.proofs.lemmas.List.Folds.{list_any-append}
use Rattle.replay_disk.specs.Disk.{Area, Areas, IsImage, ReadsAnImage, area_at}
use Rattle.gate_log.specs.Log.{EachImage, OthersStay, IsOldOrWith, IsAppendOf}
use Rattle.gate_log.specs.Records.{records}
use Rattle.spent_store.proofs.BookLaws.{log_bytes-one, log_bytes-two, near_said}
use Rattle.spent_store.specs.Books.{EpochLog, StoredBook, area_of, log_bytes, begun, has_begun, is_used, book_of}
use Rattle.spent_store.proofs.ChangeLaws.{floor_added, begin_added, tag_added}
use Rattle.spent_store.specs.Changes.{raised, begun_with, added, retirement_stages}
use Rattle.spent_store.proofs.ClaimLaws.{raised_roots, begun_roots, begun-raised, begun-begun_with, begun-added}
use Rattle.spent_store.specs.Kept.{Leaves}
use Rattle.spent_store.specs.Root.{IsNear, spell_root}
use Rattle.spent_store.proofs.StepLaws.{LogsStay, logs_stay_beside, area_unused, book_stays, floor_step, begin_step, tag_step}
use Rattle.spent_store.specs.Stores.{StoreState, Stands, Left, OpensToOneOf, opened, as_read, book_in}
use Rattle.spent_store.specs.TagLogs.{TagLogState, RestsClosed, LogStands, epoch_log}
use Rattle.spent_store.specs.declared.faults.Objection.{Objection}
use Rattle.spent_store.specs.declared.root.RootRecord.{RootRecord}
use Rattle.spent_store.specs.declared.root.RootRecord.TheVariants.{Begin, Floor}
use Rattle.spent_store.proofs.Leaving.{unused_but}
use Rattle.spent_store.proofs.StoreOpening.{log_bytes_at, rest_kept}

-- ---- among the stages

pub in_one : (a : StoredBook) (read : Result StoredBook Objection) → read ≡ Ok a → Contains (as_read (a ∷ [])) read
in_one a read is = (0, omega arith, sym is)

pub in_two : (a b : StoredBook) (read : Result StoredBook Objection) → (read ≡ Ok a) ⊎ (read ≡ Ok b) → Contains (as_read (a ∷ b ∷ [])) read
in_two a b read either = elim either [ inl is ↦ (0, omega arith, sym is) | inr is ↦ (1, omega arith, sym is) ]

-- ---- images of a store that stands

used_at : (k : ℕ) (areas : Areas) (epochs : List ℕ) → ((epoch : ℕ) → list_any (λ other. other == epoch) epochs ≡ true → RestsClosed 32 (area_of epoch) areas)
    → list_any (λ epoch. area_of epoch == k) epochs ≡ true → RestsClosed 32 k areas
used_at k areas [] rest used = absurd (cc)
used_at k areas (epoch ∷ epochs) rest used =
    elim (or_cases (area_of epoch == k) _ used) [
      | inl here ↦ subst (λ (area : ℕ). RestsClosed 32 area areas) (eqb-true (area_of epoch) k here) (rest epoch (or_left (epoch == epoch) _ (eq-eqb epoch epoch refl)))
      | inr later ↦ used_at k areas epochs (λ other there. rest other (or_right (epoch == other) _ there)) later
    ]

-- an area that rests and stays has its contents as image
image_same : (size k : ℕ) (areas now : Areas) (image : List ℕ) → RestsClosed size k areas → area_at k now ≡ area_at k areas → IsImage (area_at k now) image → image ≡ (area_at k areas).contents
image_same size k areas now image rests same is = rests.rest.only image (subst (λ (area : Area). IsImage area image) same is)

image_of : (areas : Areas) (left : Left areas) (epoch : ℕ) → IsImage (area_at (area_of epoch) areas) (log_bytes left.one left.two epoch)
image_of areas left epoch =
    elim (cases_lt (epoch % 2) 1) [
      | inl even ↦
          let first : area_of epoch ≡ 1 = omega arith in
          subst (λ (area : ℕ). IsImage (area_at area areas) (log_bytes left.one left.two epoch)) (sym first) (subst (λ (bytes : List ℕ). IsImage areas.one bytes) (sym (log_bytes-one left.one left.two epoch first)) left.is_one)
      | inr odd ↦
          let second : area_of epoch ≡ 2 = omega arith in
          subst (λ (area : ℕ). IsImage (area_at area areas) (log_bytes left.one left.two epoch)) (sym second) (subst (λ (bytes : List ℕ). IsImage areas.two bytes) (sym (log_bytes-two left.one left.two epoch second)) left.is_two)
    ]

beside_apart : (epoch : ℕ) → area_of (epoch + 1) ≢ area_of epoch
beside_apart epoch same = elim (cases_lt (epoch % 2) 1) [ inl even ↦ omega (arith, same) | inr odd ↦ omega (arith, same) ]

module _ (store : StoreState) (areas : Areas) (stands : Stands store areas) where
  abbrev book : StoredBook
  book = store.book

  abbrev root : List ℕ
  root = areas.root.contents

  abbrev one : List ℕ
  one = areas.one.contents

  abbrev two : List ℕ
  two = areas.two.contents

  used_rest : (k : ℕ) → is_used k (begun book) ≡ true → RestsClosed 32 k areas
  used_rest k used = used_at k areas (begun book) stands.logs used

  -- ---- the root is written

  module _ (now : Areas) (others : OthersStay 0 areas now) where
    one_stays : now.one ≡ areas.one
    one_stays = others 1 (omega arith) (λ same. omega (arith, same))

    two_stays : now.two ≡ areas.two
    two_stays = others 2 (omega arith) (λ same. omega (arith, same))

    logs_rest : (left : Left now) → LogsStay book one two left.one left.two
    logs_rest left = record {
      first = λ used. ap (λ (bytes : List ℕ). records 32 bytes) (image_same 32 1 areas now left.one (used_rest 1 used) one_stays left.is_one);
      second = λ used. ap (λ (bytes : List ℕ). records 32 bytes) (image_same 32 2 areas now left.two (used_rest 2 used) two_stays left.is_two);
    }

    logs_read : LogsStay book one two now.one.contents now.two.contents
    logs_read = record { first = λ used. ap (λ (area : Area). records 32 area.contents) one_stays; second = λ used. ap (λ (area : Area). records 32 area.contents) two_stays }

  module _ (floor : ℕ) (fits : length book.roots < store.limit) (small : floor < 2 ^ 64) (above : book.floor < floor) (now : Areas)
      (each : EachImage 0 (IsAppendOf 9 (spell_root (Floor floor) ∷ []) root) areas now) where
    pub raising : (epochs : List ℕ) → Leaves store.shape store.limit (retirement_stages floor book) epochs areas now
    raising epochs = record {
      opens = λ left.
          in_two book (raised floor book) (opened store.shape store.limit now left)
          (floor_step root one two left.root left.one left.two store.shape store.limit floor book stands.reads stands.made fits small above (logs_rest now each.others left) (each.images left.root left.is_root).reads);
      others = unused_but 0 epochs areas now (inl refl) each.others;
    }

    pub raising_read : ReadsAnImage now 0 → Contains (as_read (retirement_stages floor book)) (book_in now store.shape store.limit)
    raising_read image =
        in_two book (raised floor book) (book_in now store.shape store.limit)
        (floor_step root one two now.root.contents now.one.contents now.two.contents store.shape store.limit floor book stands.reads stands.made fits small above (logs_read now each.others)
        (each.images now.root.contents image).reads)

  module _ (epoch : ℕ) (fits : length book.roots < store.limit) (small : epoch < 2 ^ 64) (near : IsNear book.floor epoch) (new : has_begun epoch book ≡ false) (rest : RestsClosed 32 (area_of epoch) areas)
      (empty : records 32 (area_at (area_of epoch) areas).contents ≡ []) (now : Areas) (each : EachImage 0 (IsAppendOf 9 (spell_root (Begin epoch) ∷ []) root) areas now) where
    log_stays : area_at (area_of epoch) now ≡ area_at (area_of epoch) areas
    log_stays = each.others (area_of epoch) (omega arith) (λ same. omega (arith, same))

    pub beginning : (epochs : List ℕ) → Leaves store.shape store.limit (book ∷ begun_with epoch book ∷ []) epochs areas now
    beginning epochs = record {
      opens = λ left.
          let none : records 32 (log_bytes left.one left.two epoch) ≡ []
          = ap (λ (bytes : List ℕ). records 32 bytes) (image_same 32 (area_of epoch) areas now (log_bytes left.one left.two epoch) rest log_stays (image_of now left epoch)) ∙ empty in
          in_two book (begun_with epoch book) (opened store.shape store.limit now left)
          (begin_step root one two left.root left.one left.two store.shape store.limit epoch book stands.reads stands.made fits small near new none (logs_rest now each.others left) (each.images left.root left.is_root).reads);
      others = unused_but 0 epochs areas now (inl refl) each.others;
    }

    pub beginning_read : ReadsAnImage now 0 → Contains (as_read (book ∷ begun_with epoch book ∷ [])) (book_in now store.shape store.limit)
    beginning_read image =
        let none : records 32 (log_bytes now.one.contents now.two.contents epoch) ≡ []
        = ap (λ (bytes : List ℕ). records 32 bytes) (sym (log_bytes_at now epoch)) ∙ ap (λ (area : Area). records 32 area.contents) log_stays ∙ empty in
        in_two book (begun_with epoch book) (book_in now store.shape store.limit)
        (begin_step root one two now.root.contents now.one.contents now.two.contents store.shape store.limit epoch book stands.reads stands.made fits small near new none (logs_read now each.others)
        (each.images now.root.contents image).reads)

  -- ---- the area of an epoch is written

  module _ (epoch : ℕ) (now : Areas) (others : OthersStay (area_of epoch) areas now) where
    root_same : now.root ≡ areas.root
    root_same = others 0 (omega arith) (λ same. omega (arith, same))

    beside_same : area_at (area_of (epoch + 1)) now ≡ area_at (area_of (epoch + 1)) areas
    beside_same = others (area_of (epoch + 1)) (omega arith) (beside_apart epoch)

    beside_read : records 32 (log_bytes now.one.contents now.two.contents (epoch + 1)) ≡ records 32 (log_bytes one two (epoch + 1))
    beside_read =
        ap (λ (bytes : List ℕ). records 32 bytes)
        (sym (log_bytes_at now (epoch + 1)) ∙ ap (λ (area : Area). area.contents) beside_same ∙ log_bytes_at areas (epoch + 1))

    module _ (left : Left now) where
      root_rests : left.root ≡ root
      root_rests = image_same 9 0 areas now left.root stands.root root_same left.is_root

      beside_rests : is_used (area_of (epoch + 1)) (begun book) ≡ true → records 32 (log_bytes left.one left.two (epoch + 1)) ≡ records 32 (log_bytes one two (epoch + 1))
      beside_rests used =
          ap (λ (bytes : List ℕ). records 32 bytes)
          (image_same 32 (area_of (epoch + 1)) areas now (log_bytes left.one left.two (epoch + 1)) (used_rest (area_of (epoch + 1)) used) beside_same (image_of now left (epoch + 1)) ∙ log_bytes_at areas (epoch + 1))

  -- whatever is written there before it begins
  module _ (epoch : ℕ) (near : IsNear book.floor epoch) (new : has_begun epoch book ≡ false) (now : Areas) (others : OthersStay (area_of epoch) areas now) where
    pub starting : (epochs : List ℕ) → is_used (area_of epoch) epochs ≡ true → Leaves store.shape store.limit (book ∷ []) epochs areas now
    starting epochs used = record {
      opens = λ left.
          in_one book (opened store.shape store.limit now left)
          (book_stays root one two left.root left.one left.two store.shape store.limit book stands.reads stands.made (ap (λ (bytes : List ℕ). records 9 bytes) (root_rests epoch now others left))
          (logs_stay_beside book epoch one two left.one left.two (near_said root one two store.shape store.limit book stands.reads) near new (beside_rests epoch now others left)));
      others = unused_but (area_of epoch) epochs areas now (inr used) others;
    }

    pub starting_read : book_in now store.shape store.limit ≡ Ok book
    starting_read =
        book_stays root one two now.root.contents now.one.contents now.two.contents store.shape store.limit book stands.reads stands.made (ap (λ (area : Area). records 9 area.contents) (root_same epoch now others))
        (logs_stay_beside book epoch one two now.one.contents now.two.contents (near_said root one two store.shape store.limit book stands.reads) near new (λ used. beside_read epoch now others))

  module _ (epoch : ℕ) (tags : List (List ℕ)) (there : has_begun epoch book ≡ true) (fits : length (records 32 (area_at (area_of epoch) areas).contents) + length tags ≤ store.limit) (now : Areas)
      (each : EachImage (area_of epoch) (IsAppendOf 32 tags (area_at (area_of epoch) areas).contents) areas now) where
    few : length (records 32 (log_bytes one two epoch)) + length tags ≤ store.limit
    few = subst (λ (bytes : List ℕ). length (records 32 bytes) + length tags ≤ store.limit) (log_bytes_at areas epoch) fits

    written : (image : List ℕ) → IsImage (area_at (area_of epoch) now) image → IsOldOrWith (records 32 (log_bytes one two epoch)) tags (records 32 image)
    written image is = subst (λ (bytes : List ℕ). IsOldOrWith (records 32 bytes) tags (records 32 image)) (log_bytes_at areas epoch) (each.images image is).reads

    pub adding : (epochs : List ℕ) → is_used (area_of epoch) epochs ≡ true → Leaves store.shape store.limit (book ∷ added epoch tags book ∷ []) epochs areas now
    adding epochs used = record {
      opens = λ left.
          in_two book (added epoch tags book) (opened store.shape store.limit now left)
          (tag_step root one two left.root left.one left.two store.shape store.limit epoch tags book stands.reads stands.made there few (ap (λ (bytes : List ℕ). records 9 bytes) (root_rests epoch now each.others left))
          (beside_rests epoch now each.others left) (written (log_bytes left.one left.two epoch) (image_of now left epoch)));
      others = unused_but (area_of epoch) epochs areas now (inr used) each.others;
    }

    pub adding_read : ReadsAnImage now (area_of epoch) → Contains (as_read (book ∷ added epoch tags book ∷ [])) (book_in now store.shape store.limit)
    adding_read image =
        in_two book (added epoch tags book) (book_in now store.shape store.limit)
        (tag_step root one two now.root.contents now.one.contents now.two.contents store.shape store.limit epoch tags book stands.reads stands.made there few (ap (λ (area : Area). records 9 area.contents) (root_same epoch now each.others))
        (λ used. beside_read epoch now each.others)
        (subst (λ (bytes : List ℕ). IsOldOrWith (records 32 (log_bytes one two epoch)) tags (records 32 bytes)) (log_bytes_at now epoch) (written (area_at (area_of epoch) now).contents image)))

  -- ---- what stands then

  -- each image opens to the book alone
  pub reads_still : (left : Left areas) → opened store.shape store.limit areas left ≡ Ok book
  reads_still left =
      book_stays root one two left.root left.one left.two store.shape store.limit book stands.reads stands.made
      (ap (λ (bytes : List ℕ). records 9 bytes) (image_same 9 0 areas areas left.root stands.root refl left.is_root)) (logs_rest areas (λ other low apart. refl) left)

  pub standing : OpensToOneOf store.shape store.limit (as_read (book ∷ [])) areas
  standing left = in_one book (opened store.shape store.limit areas left) (reads_still left)

  some_more : (more : RootRecord) → 0 < length (book.roots ++ more ∷ [])
  some_more more = omega (arith, length-append book.roots (more ∷ []))

  any_kept : (floor epoch : ℕ) (epochs : List ℕ) → list_any (λ other. other == epoch) (filter (λ e. nat_le floor e) epochs) ≡ true → list_any (λ other. other == epoch) epochs ≡ true
  any_kept floor epoch [] there = there
  any_kept floor epoch (first ∷ epochs) there =
      elim (cases_Bool (nat_le floor first)) [
        | inl kept ↦
            elim (or_cases (first == epoch) (list_any (λ other. other == epoch) (filter (λ e. nat_le floor e) epochs)) (rw kept at there)) [
              | inl here ↦ or_left (first == epoch) _ here
              | inr later ↦ or_right (first == epoch) _ (any_kept floor epoch epochs later)
            ]
        | inr dropped ↦ or_right (first == epoch) _ (any_kept floor epoch epochs (rw dropped at there))
      ]

  reads_beside : (next : Areas) (found : Result StoredBook Objection) → OthersStay 0 areas next → book_of next.root.contents one two store.shape store.limit ≡ found → book_in next store.shape store.limit ≡ found
  reads_beside next found others reads =
      let first : next.one ≡ areas.one = others 1 (omega arith) (λ same. omega (arith, same)) in
      let second : next.two ≡ areas.two = others 2 (omega arith) (λ same. omega (arith, same)) in
      (λ i. book_of next.root.contents (first i).contents (second i).contents store.shape store.limit) ∙ reads

  log_beside : (epoch : ℕ) (next : Areas) → OthersStay 0 areas next → RestsClosed 32 (area_of epoch) areas → RestsClosed 32 (area_of epoch) next
  log_beside epoch next others rest = rest_kept 32 (area_of epoch) areas next (others (area_of epoch) (omega arith) (λ same. omega (arith, same))) rest

  pub raised_stands : (floor : ℕ) → length book.roots < store.limit → floor < 2 ^ 64 → book.floor < floor
      → (next : Areas) → OthersStay 0 areas next → RestsClosed 9 0 next → records 9 next.root.contents ≡ records 9 root ++ spell_root (Floor floor) ∷ [] → Stands (record store { book = raised floor book }) next
  raised_stands floor fits small above next others rest more = record {
    root = rest;
    logs = λ epoch there. log_beside epoch next others (stands.logs epoch (any_kept floor epoch (begun book) (subst (λ (epochs : List ℕ). list_any (λ other. other == epoch) epochs ≡ true) (begun-raised floor book above) there)));
    reads = reads_beside next (Ok (raised floor book)) others (floor_added root one two next.root.contents store.shape store.limit floor book stands.reads stands.made fits small above more);
    made = subst (λ (roots : List RootRecord). 0 < length roots) (sym (raised_roots floor book above)) (some_more (Floor floor));
  }

  pub started_stands : (epoch : ℕ) → IsNear book.floor epoch → has_begun epoch book ≡ false → (next : Areas) → OthersStay (area_of epoch) areas next → Stands store next
  started_stands epoch near new next others =
      let near_book = near_said root one two store.shape store.limit book stands.reads in
      let unused = area_unused book.floor epoch (begun book) near_book near new in
      let stays : (other : ℕ) → has_begun other book ≡ true → area_at (area_of other) next ≡ area_at (area_of other) areas
      = λ other there. others (area_of other) (omega arith) (λ same. let used = subst (λ (area : ℕ). is_used area (begun book) ≡ true) same (uses other (begun book) there) in cc) in
      record {
        root = rest_kept 9 0 areas next (others 0 (omega arith) (λ same. omega (arith, same))) stands.root;
        logs = λ other there. rest_kept 32 (area_of other) areas next (stays other there) (stands.logs other there);
        reads = starting_read epoch near new next others;
        made = stands.made;
      }
    where
      uses : (epoch : ℕ) (epochs : List ℕ) → list_any (λ other. other == epoch) epochs ≡ true → list_any (λ other. area_of other == area_of epoch) epochs ≡ true
      uses epoch [] there = there
      uses epoch (first ∷ epochs) there =
          elim (or_cases (first == epoch) _ there) [
            | inl here ↦ or_left (area_of first == area_of epoch) _ (eq-eqb (area_of first) (area_of epoch) (ap area_of (eqb-true first epoch here)))
            | inr later ↦ or_right (area_of first == area_of epoch) _ (uses epoch epochs later)
          ]

  pub begun_stands : (epoch : ℕ) → length book.roots < store.limit → epoch < 2 ^ 64 → IsNear book.floor epoch → has_begun epoch book ≡ false → RestsClosed 32 (area_of epoch) areas
      → records 32 (area_at (area_of epoch) areas).contents ≡ []
      → (next : Areas) → OthersStay 0 areas next → RestsClosed 9 0 next → records 9 next.root.contents ≡ records 9 root ++ spell_root (Begin epoch) ∷ [] → Stands (record store { book = begun_with epoch book }) next
  begun_stands epoch fits small near new log empty next others rest more = record {
    root = rest;
    logs = λ other there.
        elim (or_cases (has_begun other book) (list_any (λ e. e == other) (epoch ∷ []))
        (sym (list_any-append (λ e. e == other) (begun book) (epoch ∷ [])) ∙ subst (λ (epochs : List ℕ). list_any (λ e. e == other) epochs ≡ true) (begun-begun_with epoch book new) there)) [
          | inl before ↦ log_beside other next others (stands.logs other before)
          | inr here ↦
              elim (or_cases (epoch == other) false here) [
                | inl is ↦ subst (λ (e : ℕ). RestsClosed 32 (area_of e) next) (eqb-true epoch other is) (log_beside epoch next others log)
                | inr never ↦ absurd (cc)
              ]
        ];
    reads = reads_beside next (Ok (begun_with epoch book)) others
        (begin_added root one two next.root.contents store.shape store.limit epoch book stands.reads stands.made fits small near new (ap (λ (bytes : List ℕ). records 32 bytes) (sym (log_bytes_at areas epoch)) ∙ empty) more);
    made = subst (λ (roots : List RootRecord). 0 < length roots) (sym (begun_roots epoch book new)) (some_more (Begin epoch));
  }

  pub added_stands : (epoch : ℕ) (tags : List (List ℕ)) → has_begun epoch book ≡ true → length (records 32 (area_at (area_of epoch) areas).contents) + length tags ≤ store.limit
      → (next : Areas) → OthersStay (area_of epoch) areas next → RestsClosed 32 (area_of epoch) next
      → records 32 (area_at (area_of epoch) next).contents ≡ records 32 (area_at (area_of epoch) areas).contents ++ tags → Stands (record store { book = added epoch tags book }) next
  added_stands epoch tags there fits next others rest more =
      let same_root : next.root ≡ areas.root = others 0 (omega arith) (λ same. omega (arith, same)) in
      let before = log_bytes_at areas epoch in
      let after = log_bytes_at next epoch in
      let few = subst (λ (bytes : List ℕ). length (records 32 bytes) + length tags ≤ store.limit) before fits in
      let written : records 32 (log_bytes next.one.contents next.two.contents epoch) ≡ records 32 (log_bytes one two epoch) ++ tags
      = ap (λ (bytes : List ℕ). records 32 bytes) (sym after) ∙ more ∙ ap (λ (bytes : List ℕ). records 32 bytes ++ tags) before in
      record {
        root = rest_kept 9 0 areas next same_root stands.root;
        logs = λ other begun_there.
            let was : has_begun other book ≡ true = subst (λ (epochs : List ℕ). list_any (λ e. e == other) epochs ≡ true) (begun-added epoch tags book) begun_there in
            elim (cases_eq (area_of other) (area_of epoch)) [
              | inl is ↦ subst (λ (area : ℕ). RestsClosed 32 area next) (sym is) rest
              | inr isnt ↦ rest_kept 32 (area_of other) areas next (others (area_of other) (omega arith) isnt) (stands.logs other was)
            ];
        reads = (λ i. book_of (same_root i).contents next.one.contents next.two.contents store.shape store.limit)
            ∙ tag_added root one two next.one.contents next.two.contents store.shape store.limit epoch tags book stands.reads there few written
            (λ used. ap (λ (bytes : List ℕ). records 32 bytes)
            (sym (log_bytes_at next (epoch + 1)) ∙ ap (λ (area : Area). area.contents) (others (area_of (epoch + 1)) (omega arith) (beside_apart epoch)) ∙ log_bytes_at areas (epoch + 1)));
        made = stands.made;
      }

-- ---- one log of a store that stands

module _ (store : StoreState) (areas : Areas) (stands : Stands store areas) (old : TagLogState) (stood : LogStands old areas) (tags : List (List ℕ))
    (there : has_begun old.epoch store.book ≡ true) (fits : length old.tags + length tags ≤ store.limit) where
  few_there : length (records 32 (area_at (area_of old.epoch) areas).contents) + length tags ≤ store.limit
  few_there = subst (λ (found : List (List ℕ)). length found + length tags ≤ store.limit) (sym stood.read) fits

  pub adding_log : (epochs : List ℕ) → is_used (area_of old.epoch) epochs ≡ true → (now : Areas) → EachImage (area_of old.epoch) (IsAppendOf 32 tags (area_at (area_of old.epoch) areas).contents) areas now
      → Leaves store.shape store.limit (store.book ∷ added old.epoch tags store.book ∷ []) epochs areas now
  adding_log epochs used now each = adding store areas stands old.epoch tags there few_there now each epochs used

  pub adding_log_read : (now : Areas) → EachImage (area_of old.epoch) (IsAppendOf 32 tags (area_at (area_of old.epoch) areas).contents) areas now → ReadsAnImage now (area_of old.epoch)
      → Contains (as_read (store.book ∷ added old.epoch tags store.book ∷ [])) (book_in now store.shape store.limit)
  adding_log_read now each image = adding_read store areas stands old.epoch tags there few_there now each image

  pub added_log_stands : (log : TagLogState) (next : Areas) → OthersStay (area_of old.epoch) areas next → LogStands log next → epoch_log log ≡ record { epoch = old.epoch; tags = old.tags ++ tags }
      → Stands (record store { book = added old.epoch tags store.book }) next
  added_log_stands log next others stood_next is =
      let same : log.epoch ≡ old.epoch = ap (λ (l : EpochLog). l.epoch) is in
      added_stands store areas stands old.epoch tags there few_there next others (subst (λ (epoch : ℕ). RestsClosed 32 (area_of epoch) next) same stood_next.rest)
      (subst (λ (epoch : ℕ). records 32 (area_at (area_of epoch) next).contents ≡ log.tags) same stood_next.read ∙ ap (λ (l : EpochLog). l.tags) is ∙ ap (λ (found : List (List ℕ)). found ++ tags) (sym stood.read))

-- what isn't told of the rack may change
pub stands_with : (store : StoreState) (areas : Areas) (is_sound : Bool) (spare : ℕ) → Stands store areas → Stands (record store { is_sound = is_sound; spare = spare }) areas
stands_with store areas is_sound spare stands = record { root = stands.root; logs = stands.logs; reads = stands.reads; made = stands.made }

-- a log while the root is written
pub log_stands_beside : (log : TagLogState) (old new : Areas) → OthersStay 0 old new → LogStands log old → LogStands log new
log_stands_beside log old new others stood =
    let same : area_at (area_of log.epoch) new ≡ area_at (area_of log.epoch) old = others (area_of log.epoch) (omega arith) (λ is. omega (arith, is)) in
    record { rest = rest_kept 32 (area_of log.epoch) old new same stood.rest; read = ap (λ (area : Area). records 32 area.contents) same ∙ stood.read }
