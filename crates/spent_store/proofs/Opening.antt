-- A store that was found, and is made: what its writes leave at every moment, and that it stands then.
use Rattle.std.proofs.Common.{◌≡◌, ◌≢◌, ◌⊎◌, inl, inr, ℕ, ◌<◌, true, Option, Some, None, List, [], ◌∷◌, ◌++◌, length, Contains, Ok, refl, sym, ◌∙◌, ap, subst, arith}
use Rattle.std.proofs.lemmas.Bool.{cases_lt, cases_eq}
use Rattle.std.proofs.lemmas.List.{nil_from_length}
use Rattle.mix_base.specs.declared.shards.Shape.{Shape}
use Rattle.mix_base.proofs.Members.{Contains-tail}
use Rattle.replay_disk.specs.Disk.{Area, Areas, RackState, IsImage, IsAtRest, ReadsAnImage, area_at, contents_of}
use Rattle.replay_disk.specs.Moments.{AtEachMoment}
use Rattle.replay_disk.proofs.Laws.{rests_same, weaker, chained}
use Rattle.gate_log.proofs.Moments.{each_weaker, each_after}
use Rattle.gate_log.specs.Log.{LogState, ReadState, WasRead, EachImage, IsOldOrWith, IsAppendOf, IsClosingOf, AppendLeaves, ClosingLeaves, records_of}
use Rattle.gate_log.specs.Records.{records}
use Rattle.spent_store.specs.Books.{StoredBook, area_of, begun, is_used, book_of}
use Rattle.spent_store.specs.Changes.{made}
use Rattle.spent_store.specs.Found.{IsInArea, Making, Rests, IsMakingOf, ClosesLog, made_records}
use Rattle.spent_store.specs.Root.{is_shape, shape_value, spell_root}
use Rattle.spent_store.specs.Stores.{OpensToOneOf, UnusedStay, opened, as_read, book_in}
use Rattle.spent_store.specs.TagLogs.{ReadTagsState}
use Rattle.spent_store.specs.declared.root.RootRecord.TheVariants.{Made}
use Rattle.spent_store.proofs.BookLaws.{root_count}
use Rattle.spent_store.proofs.ChangeLaws.{made_first, made_before}
use Rattle.spent_store.proofs.Leaving.{unused_but, unused_then}
use Rattle.spent_store.proofs.Stages.{in_one, in_two}
use Rattle.spent_store.proofs.StoreOpening.{made_some}
use Rattle.spent_store.proofs.StepLaws.{LogsStay, book_stays, unrecorded_root, made_step}

pub made_kept : (shape : Shape) (found : List (List ℕ)) → 0 < length found → made_records shape found ≡ found
made_kept shape [] none = absurd (omega arith)
made_kept shape (first ∷ others) some = refl

module _ (shape : Shape) (limit : ℕ) (book : StoredBook) (areas : Areas) (rests : Rests shape limit book areas) where
  abbrev root : List ℕ
  root = areas.root.contents

  abbrev one : List ℕ
  one = areas.one.contents

  abbrev two : List ℕ
  two = areas.two.contents

  -- an area that rests and stays has the records that it had
  stays : (area : ℕ) → IsAtRest areas area → (now : Areas) → area_at area now ≡ area_at area areas → (image : List ℕ) → IsImage (area_at area now) image → records 32 image ≡ records 32 (area_at area areas).contents
  stays area rest now same image is = ap (λ (bytes : List ℕ). records 32 bytes) (rest.only image (subst (λ (a : Area). IsImage a image) same is))

  -- ---- the root is made

  module _ (some : 0 < limit) (good : is_shape shape ≡ true) where
    root_bytes : (root' one' two' : List ℕ) → LogsStay book one two one' two' → IsMakingOf shape root root'
        → (book_of root' one' two' shape limit ≡ Ok book) ⊎ (book_of root' one' two' shape limit ≡ Ok (made shape book))
    root_bytes root' one' two' stay making =
        elim (cases_lt 0 (length book.roots)) [
          | inl there ↦
              let recorded : 0 < length (records 9 root) = omega (arith, there, root_count root one two shape limit book rests.reads) in
              let same : records 9 root' ≡ records 9 root = elim making.found [ inl old ↦ old | inr more ↦ more ∙ made_kept shape (records 9 root) recorded ] in
              inl (book_stays root one two root' one' two' shape limit book rests.reads there same stay)
          | inr none ↦
              let no_roots : book.roots ≡ [] = nil_from_length book.roots (omega (arith, none)) in
              let bare = unrecorded_root root one two shape limit book rests.reads no_roots in
              let first : List (List ℕ) = spell_root (Made (shape_value shape)) ∷ [] in
              let found : IsOldOrWith (records 9 root) first (records 9 root')
              = elim making.found [ inl old ↦ inl old | inr more ↦ inr (more ∙ (λ i. made_records shape (bare.no_records i)) ∙ (λ i. sym bare.no_records i ++ first)) ] in
              made_step root one two root' one' two' shape limit book rests.reads no_roots good some (λ _. omega (arith, making.short bare.no_records, bare.short)) found
        ]

    module _ (now : Areas) (each : EachImage 0 (IsMakingOf shape root) areas now) where
      one_stays : now.one ≡ areas.one
      one_stays = each.others 1 (omega arith) (λ same. omega (arith, same))

      two_stays : now.two ≡ areas.two
      two_stays = each.others 2 (omega arith) (λ same. omega (arith, same))

      pub making : Making shape limit book areas now
      making = record {
        opens = λ left. in_two book (made shape book) (opened shape limit now left)
            (root_bytes left.root left.one left.two
            (record { first = λ used. stays 1 (rests.one used) now one_stays left.one left.is_one; second = λ used. stays 2 (rests.two used) now two_stays left.two left.is_two })
            (each.images left.root left.is_root));
        others = unused_but 0 (begun book) areas now (inl refl) each.others;
      }

      pub making_read : ReadsAnImage now 0 → Contains (as_read (book ∷ made shape book ∷ [])) (book_in now shape limit)
      making_read image =
          in_two book (made shape book) (book_in now shape limit)
          (root_bytes now.root.contents now.one.contents now.two.contents
          (record { first = λ used. ap (λ (a : Area). records 32 a.contents) one_stays; second = λ used. ap (λ (a : Area). records 32 a.contents) two_stays }) (each.images now.root.contents image))

      pub made_rests : IsAtRest now 0 → records 9 now.root.contents ≡ made_records shape (records 9 root) → Rests shape limit (made shape book) now
      made_rests rest is = record {
        root = rest;
        one = λ used. rests_same 1 areas now one_stays (rests.one used);
        two = λ used. rests_same 2 areas now two_stays (rests.two used);
        reads = (λ i. book_of now.root.contents (one_stays i).contents (two_stays i).contents shape limit) ∙ made_reads;
      }
        where
          made_reads : book_of now.root.contents one two shape limit ≡ Ok (made shape book)
          made_reads =
              elim (cases_lt 0 (length book.roots)) [
                | inl there ↦
                    let recorded : 0 < length (records 9 root) = omega (arith, there, root_count root one two shape limit book rests.reads) in
                    book_stays root one two now.root.contents one two shape limit book rests.reads there (is ∙ made_kept shape (records 9 root) recorded) (record { first = λ used. refl; second = λ used. refl })
                    ∙ ap (λ (b : StoredBook). Ok b) (sym (made_before shape book there))
                | inr none ↦
                    let no_roots : book.roots ≡ [] = nil_from_length book.roots (omega (arith, none)) in
                    let bare = unrecorded_root root one two shape limit book rests.reads no_roots in
                    let first : List (List ℕ) = spell_root (Made (shape_value shape)) ∷ [] in
                    made_first root one two now.root.contents shape limit book rests.reads bare.no_records good some (is ∙ (λ i. made_records shape (bare.no_records i)) ∙ (λ i. sym bare.no_records i ++ first))
              ]

  -- ---- the end of a log is closed

  module _ (recorded : 0 < length book.roots) where
    same_book : (now : Areas) → now ≡ areas → OpensToOneOf shape limit (as_read (book ∷ [])) now
    same_book now same left =
        in_one book (opened shape limit now left)
        (book_stays root one two left.root left.one left.two shape limit book rests.reads recorded
        (ap (λ (bytes : List ℕ). records 9 bytes) (rests.root.only left.root (subst (λ (a : Areas). IsImage a.root left.root) same left.is_root)))
        (record {
          first = λ used. stays 1 (rests.one used) now (ap (λ (a : Areas). a.one) same) left.one left.is_one;
          second = λ used. stays 2 (rests.two used) now (ap (λ (a : Areas). a.two) same) left.two left.is_two;
        }))

    module _ (area : ℕ) (beside : 0 < area) (now : Areas) (each : EachImage area (IsClosingOf 32 (area_at area areas).contents) areas now) where
      root_stays : now.root ≡ areas.root
      root_stays = each.others 0 (omega arith) (λ same. omega (arith, same, beside))

      same_records : (other : ℕ) → other < 3 → IsAtRest areas other → (image : List ℕ) → IsImage (area_at other now) image → records 32 image ≡ records 32 (area_at other areas).contents
      same_records other low rest image is =
          elim (cases_eq other area) [
            | inl here ↦ subst (λ (a : ℕ). records 32 image ≡ records 32 (area_at a areas).contents) (sym here) (each.images image (subst (λ (a : ℕ). IsImage (area_at a now) image) here is)).reads
            | inr apart ↦ stays other rest now (each.others other low apart) image is
          ]

      closing_opens : OpensToOneOf shape limit (as_read (book ∷ [])) now
      closing_opens left =
          in_one book (opened shape limit now left)
          (book_stays root one two left.root left.one left.two shape limit book rests.reads recorded
          (ap (λ (bytes : List ℕ). records 9 bytes) (rests.root.only left.root (subst (λ (a : Area). IsImage a left.root) root_stays left.is_root)))
          (record {
            first = λ used. same_records 1 (omega arith) (rests.one used) left.one left.is_one;
            second = λ used. same_records 2 (omega arith) (rests.two used) left.two left.is_two;
          }))

      module _ (image : ReadsAnImage now area) where
        read_records : (other : ℕ) → other < 3 → records 32 (area_at other now).contents ≡ records 32 (area_at other areas).contents
        read_records other low =
            elim (cases_eq other area) [
              | inl here ↦ subst (λ (a : ℕ). records 32 (area_at a now).contents ≡ records 32 (area_at a areas).contents) (sym here) (each.images (area_at area now).contents image).reads
              | inr apart ↦ ap (λ (a : Area). records 32 a.contents) (each.others other low apart)
            ]

        closing_reads : book_in now shape limit ≡ Ok book
        closing_reads =
            book_stays root one two now.root.contents now.one.contents now.two.contents shape limit book rests.reads recorded (ap (λ (a : Area). records 9 a.contents) root_stays)
            (record { first = λ used. read_records 1 (omega arith); second = λ used. read_records 2 (omega arith) })

      rests_at : (other : ℕ) → other < 3 → IsAtRest now area → IsAtRest areas other → IsAtRest now other
      rests_at other low rest was =
          elim (cases_eq other area) [
            | inl here ↦ subst (λ (a : ℕ). IsAtRest now a) (sym here) rest
            | inr apart ↦ rests_same other areas now (each.others other low apart) was
          ]

      closed_rests : IsAtRest now area → Rests shape limit book now
      closed_rests rest = record {
        root = rests_same 0 areas now root_stays rests.root;
        one = λ used. rests_at 1 (omega arith) rest (rests.one used);
        two = λ used. rests_at 2 (omega arith) rest (rests.two used);
        reads = closing_reads rest.image;
      }

    -- where there is one
    module _ (area : ℕ) (beside : 0 < area) (found : Option ReadTagsState) (in_area : IsInArea area limit found) (now : Areas) where
      each_of : (read : ReadTagsState) → found ≡ Some read → ClosesLog (Some read) areas now → EachImage area (IsClosingOf 32 (area_at area areas).contents) areas now
      each_of read is each = subst (λ (a : ℕ). EachImage a (IsClosingOf 32 (area_at a areas).contents) areas now) (in_area read is).0 each

      by_case : (P : Type 0) → (found ≡ None → now ≡ areas → P) → ((read : ReadTagsState) → found ≡ Some read → EachImage area (IsClosingOf 32 (area_at area areas).contents) areas now → P) → ClosesLog found areas now → P
      by_case P nothing closed closes = split found refl closes
        where
          split : (which : Option ReadTagsState) → found ≡ which → ClosesLog which areas now → P
          split None is same = nothing is same
          split (Some read) is each = closed read is (each_of read is each)

      pub log_opens : ClosesLog found areas now → OpensToOneOf shape limit (as_read (book ∷ [])) now
      log_opens closes = by_case (OpensToOneOf shape limit (as_read (book ∷ [])) now) (λ none same. same_book now same) (λ read is each. closing_opens area beside now each) closes

      pub log_reads : ((read : ReadTagsState) → found ≡ Some read → ReadsAnImage now (area_of read.epoch)) → ClosesLog found areas now → book_in now shape limit ≡ Ok book
      log_reads image closes =
          by_case (book_in now shape limit ≡ Ok book) (λ none same. ap (λ (a : Areas). book_in a shape limit) same ∙ rests.reads)
          (λ read is each. closing_reads area beside now each (subst (λ (a : ℕ). ReadsAnImage now a) (in_area read is).0 (image read is))) closes

      pub log_rests : ((read : ReadTagsState) → found ≡ Some read → IsAtRest now (area_of read.epoch)) → ClosesLog found areas now → Rests shape limit book now
      log_rests rest closes =
          by_case (Rests shape limit book now) (λ none same. subst (λ (a : Areas). Rests shape limit book a) (sym same) rests)
          (λ read is each. closed_rests area beside now each (subst (λ (a : ℕ). IsAtRest now a) (in_area read is).0 (rest read is))) closes

      pub log_unused : (epochs : List ℕ) → ((read : ReadTagsState) → found ≡ Some read → is_used area epochs ≡ true) → ClosesLog found areas now → UnusedStay epochs areas now
      log_unused epochs used closes =
          by_case (UnusedStay epochs areas now) (λ none same other some low unused. ap (λ (a : Areas). area_at other a) same)
          (λ read is each. unused_but area epochs areas now (inr (used read is)) each.others) closes

-- ---- the root's log

module _ (shape : Shape) (s0 s1 : RackState) (closing : AtEachMoment (EachImage 0 (IsClosingOf 9 (contents_of 0 s0)) s0.areas) s0 s1) where
  abbrev old : List ℕ
  old = contents_of 0 s0

  abbrev Makes : List ℕ → Type 0
  Makes image = IsMakingOf shape old image

  closed_image : (image : List ℕ) → IsClosingOf 9 old image → Makes image
  closed_image image is = record {
    found = inl is.reads;
    short = λ none. let bare : length (records 9 old) ≡ 0 = ap (λ (found : List (List ℕ)). length found) none in omega (arith, is.no_longer, bare);
  }

  pub root_closed : AtEachMoment (EachImage 0 Makes s0.areas) s0 s1
  root_closed = each_weaker 0 (IsClosingOf 9 old) Makes s0.areas s0 s1 closed_image closing

  -- and then its first record is appended
  module _ (bare : records 9 old ≡ []) (image : ReadsAnImage s1.areas 0) (s2 : RackState)
      (appending : AtEachMoment (EachImage 0 (IsAppendOf 9 (spell_root (Made (shape_value shape)) ∷ []) (contents_of 0 s1)) s1.areas) s1 s2) where
    here : IsClosingOf 9 old (contents_of 0 s1)
    here = closing.now.images (contents_of 0 s1) image

    none : records 9 (contents_of 0 s1) ≡ []
    none = here.reads ∙ bare

    appended_image : (found : List ℕ) → IsAppendOf 9 (spell_root (Made (shape_value shape)) ∷ []) (contents_of 0 s1) found → Makes found
    appended_image found is = record {
      found = elim is.reads [
        | inl same ↦ inl (same ∙ here.reads)
        | inr more ↦ inr (more ∙ (λ i. none i ++ spell_root (Made (shape_value shape)) ∷ []) ∙ (λ i. made_records shape (sym bare i)))
      ];
      short = λ _.
          let first : length (records 9 (contents_of 0 s1)) ≡ 0 = ap (λ (xs : List (List ℕ)). length xs) none in
          let before : length (records 9 old) ≡ 0 = ap (λ (xs : List (List ℕ)). length xs) bare in
          omega (arith, is.no_longer, first, here.no_longer, before);
    }

    pub root_made : AtEachMoment (EachImage 0 Makes s0.areas) s0 s2
    root_made = each_after 0 (IsAppendOf 9 (spell_root (Made (shape_value shape)) ∷ []) (contents_of 0 s1)) Makes s0 s1 s2 appended_image root_closed appending

    pub made_there : records 9 (contents_of 0 s2) ≡ records 9 (contents_of 0 s1) ++ spell_root (Made (shape_value shape)) ∷ [] → records 9 (contents_of 0 s2) ≡ made_records shape (records 9 old)
    made_there more = more ∙ (λ i. none i ++ spell_root (Made (shape_value shape)) ∷ []) ∙ (λ i. made_records shape (sym bare i))

-- ---- all writes: `s1` once the root was made, `s2` once the log of area 1 was closed, and `s3` that of area 2

module _ (shape : Shape) (limit : ℕ) (book : StoredBook) (some : 0 < limit) (good : is_shape shape ≡ true) (s0 s1 : RackState) (rests : Rests shape limit book s0.areas)
    (root : AtEachMoment (EachImage 0 (IsMakingOf shape (contents_of 0 s0)) s0.areas) s0 s1) where
  abbrev Writes : RackState → Type 0
  Writes last = AtEachMoment (Making shape limit book s0.areas) s0 last

  abbrev both : List StoredBook
  both = book ∷ made shape book ∷ []

  pub root_moments : Writes s1
  root_moments = weaker (EachImage 0 (IsMakingOf shape (contents_of 0 s0)) s0.areas) (Making shape limit book s0.areas) s0 s1 (λ now each. making shape limit book s0.areas rests some good now each) root

  pub root_read : ReadsAnImage s1.areas 0 → Contains (as_read both) (book_in s1.areas shape limit)
  root_read image = making_read shape limit book s0.areas rests some good s1.areas root.now image

  module _ (rest : IsAtRest s1.areas 0) (is : records 9 (contents_of 0 s1) ≡ made_records shape (records 9 (contents_of 0 s0))) where
    there : Rests shape limit (made shape book) s1.areas
    there = made_rests shape limit book s0.areas rests some good s1.areas root.now rest is

    recorded : 0 < length (made shape book).roots
    recorded = made_some shape book

    -- the end of a log is closed
    goes_on_with : (old now : Areas) → UnusedStay (begun book) s0.areas old → OpensToOneOf shape limit (as_read (made shape book ∷ [])) now → UnusedStay (begun book) old now → Making shape limit book s0.areas now
    goes_on_with old now before opens others = record {
      opens = λ left. Contains-tail (Ok book) (as_read (made shape book ∷ [])) (opened shape limit now left) (opens left);
      others = unused_then (begun book) s0.areas old now before others;
    }

    module _ (one : Option ReadTagsState) (in_one : IsInArea 1 limit one) (uses_one : (read : ReadTagsState) → one ≡ Some read → is_used 1 (begun book) ≡ true) (s2 : RackState)
        (first : AtEachMoment (ClosesLog one s1.areas) s1 s2) where
      step_one : (now : Areas) → ClosesLog one s1.areas now → Making shape limit book s0.areas now
      step_one now closes =
          goes_on_with s1.areas now root_moments.now.others (log_opens shape limit (made shape book) s1.areas there recorded 1 (omega arith) one in_one now closes)
          (log_unused shape limit (made shape book) s1.areas there recorded 1 (omega arith) one in_one now (begun book) uses_one closes)

      pub one_moments : Writes s2
      one_moments = chained (Making shape limit book s0.areas) s0 s1 s2 root_moments (weaker (ClosesLog one s1.areas) (Making shape limit book s0.areas) s1 s2 step_one first)

      pub one_read : ((read : ReadTagsState) → one ≡ Some read → ReadsAnImage s2.areas (area_of read.epoch)) → Contains (as_read both) (book_in s2.areas shape limit)
      one_read image = in_two book (made shape book) (book_in s2.areas shape limit) (inr (log_reads shape limit (made shape book) s1.areas there recorded 1 (omega arith) one in_one s2.areas image first.now))

      module _ (rest_one : (read : ReadTagsState) → one ≡ Some read → IsAtRest s2.areas (area_of read.epoch)) where
        there_one : Rests shape limit (made shape book) s2.areas
        there_one = log_rests shape limit (made shape book) s1.areas there recorded 1 (omega arith) one in_one s2.areas rest_one first.now

        module _ (two : Option ReadTagsState) (in_two_area : IsInArea 2 limit two) (uses_two : (read : ReadTagsState) → two ≡ Some read → is_used 2 (begun book) ≡ true) (s3 : RackState)
            (second : AtEachMoment (ClosesLog two s2.areas) s2 s3) where
          step_two : (now : Areas) → ClosesLog two s2.areas now → Making shape limit book s0.areas now
          step_two now closes =
              goes_on_with s2.areas now one_moments.now.others (log_opens shape limit (made shape book) s2.areas there_one recorded 2 (omega arith) two in_two_area now closes)
              (log_unused shape limit (made shape book) s2.areas there_one recorded 2 (omega arith) two in_two_area now (begun book) uses_two closes)

          pub two_moments : Writes s3
          two_moments = chained (Making shape limit book s0.areas) s0 s2 s3 one_moments (weaker (ClosesLog two s2.areas) (Making shape limit book s0.areas) s2 s3 step_two second)

          pub two_read : ((read : ReadTagsState) → two ≡ Some read → ReadsAnImage s3.areas (area_of read.epoch)) → Contains (as_read both) (book_in s3.areas shape limit)
          two_read image = in_two book (made shape book) (book_in s3.areas shape limit) (inr (log_reads shape limit (made shape book) s2.areas there_one recorded 2 (omega arith) two in_two_area s3.areas image second.now))

          pub all_rests : ((read : ReadTagsState) → two ≡ Some read → IsAtRest s3.areas (area_of read.epoch)) → Rests shape limit (made shape book) s3.areas
          all_rests rest_two = log_rests shape limit (made shape book) s2.areas there_one recorded 2 (omega arith) two in_two_area s3.areas rest_two second.now

-- an area stays while another's log is closed
pub closes_beside : (area other limit : ℕ) (found : Option ReadTagsState) (old now : Areas) → IsInArea area limit found → other < 3 → other ≢ area → ClosesLog found old now → area_at other now ≡ area_at other old
closes_beside area other limit found old now in_area low apart closes = split found refl closes
  where
    split : (which : Option ReadTagsState) → found ≡ which → ClosesLog which old now → area_at other now ≡ area_at other old
    split None is same = ap (λ (a : Areas). area_at other a) same
    split (Some read) is each = each.others other low (λ here. apart (here ∙ (in_area read is).0))

-- ---- the root's log is the log of area 0 with records of nine bytes

pub closing_at : (area size : ℕ) (s0 s1 : RackState) → area ≡ 0 → size ≡ 9 → ClosingLeaves area size s0 s1 → AtEachMoment (EachImage 0 (IsClosingOf 9 (contents_of 0 s0)) s0.areas) s0 s1
closing_at area size s0 s1 is_area is_size moments =
    subst (λ (n : ℕ). AtEachMoment (EachImage 0 (IsClosingOf n (contents_of 0 s0)) s0.areas) s0 s1) is_size
    (subst (λ (a : ℕ). AtEachMoment (EachImage a (IsClosingOf size (contents_of a s0)) s0.areas) s0 s1) is_area moments)

pub appending_at : (log : LogState) (bytes spelled : List ℕ) (s1 s2 : RackState) → log.area ≡ 0 → log.size ≡ 9 → bytes ≡ spelled → AppendLeaves log (bytes ∷ []) s1 s2
    → AtEachMoment (EachImage 0 (IsAppendOf 9 (spelled ∷ []) (contents_of 0 s1)) s1.areas) s1 s2
appending_at log bytes spelled s1 s2 is_area is_size are moments =
    subst (λ (xs : List ℕ). AtEachMoment (EachImage 0 (IsAppendOf 9 (xs ∷ []) (contents_of 0 s1)) s1.areas) s1 s2) are
    (subst (λ (n : ℕ). AtEachMoment (EachImage 0 (IsAppendOf n (bytes ∷ []) (contents_of 0 s1)) s1.areas) s1 s2) is_size
    (subst (λ (a : ℕ). AtEachMoment (EachImage a (IsAppendOf log.size (bytes ∷ []) (contents_of a s1)) s1.areas) s1 s2) is_area moments))

pub read_count : (root : ReadState) (state : RackState) → root.area ≡ 0 → root.size ≡ 9 → WasRead root state → length (records 9 (contents_of 0 state)) ≡ root.count
read_count root state is_area is_size was =
    subst (λ (n : ℕ). length (records n (contents_of 0 state)) ≡ root.count) is_size (subst (λ (a : ℕ). length (records root.size (contents_of a state)) ≡ root.count) is_area was.count)

pub bare_records : (root : ReadState) (state : RackState) → root.area ≡ 0 → root.size ≡ 9 → WasRead root state → root.count ≡ 0 → records 9 (contents_of 0 state) ≡ []
bare_records root state is_area is_size was none = nil_from_length (records 9 (contents_of 0 state)) (read_count root state is_area is_size was ∙ none)

pub appended_at : (log : LogState) (bytes spelled : List ℕ) (s1 s2 : RackState) → log.area ≡ 0 → log.size ≡ 9 → bytes ≡ spelled → records_of log s2 ≡ records_of log s1 ++ bytes ∷ []
    → records 9 (contents_of 0 s2) ≡ records 9 (contents_of 0 s1) ++ spelled ∷ []
appended_at log bytes spelled s1 s2 is_area is_size are more =
    subst (λ (xs : List ℕ). records 9 (contents_of 0 s2) ≡ records 9 (contents_of 0 s1) ++ xs ∷ []) are
    (subst (λ (n : ℕ). records n (contents_of 0 s2) ≡ records n (contents_of 0 s1) ++ bytes ∷ []) is_size
    (subst (λ (a : ℕ). records log.size (contents_of a s2) ≡ records log.size (contents_of a s1) ++ bytes ∷ []) is_area more))
