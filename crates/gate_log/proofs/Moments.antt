-- What a log's steps leave at every moment, from what their writes leave outside a range.
use Rattle.std.proofs.Common.{◌≡◌, inl, ℕ, ◌+◌, ◌<◌, ◌≤◌, max, List, [], ◌∷◌, ◌++◌, length, refl, sym, ◌∙◌, ap, subst, arith, length-append, length-drop}
use Rattle.replay_disk.specs.Disk.{Area, Areas, RackState, IsImage, IsSynced, IsAtRest, ReadsAnImage, ChangesOnly, ContentsAreImages, OnlyRead, area_at, contents_of, settled, with_bytes}
use Rattle.replay_disk.specs.Moments.{AtEachMoment, PassesOne}
use Rattle.replay_disk.proofs.Images.{length-with_bytes}
use Rattle.replay_disk.proofs.Laws.{weaker, chained, started, goes_on, same_moment, rests_settled, rests_same}
use Rattle.gate_log.specs.Log.{EachImage, OthersStay, IsAppendOf, IsClosingOf, IsResetOf, IsOpeningOf}
use Rattle.gate_log.specs.Records.{records, end_place, with_records, IsClosed}
use Rattle.gate_log.specs.Scanning.{SameOutside}
use Rattle.gate_log.proofs.Appending.{behind_keeps, gate_image, written_is, staged_long, end_keeps, reset_image}
use Rattle.gate_log.proofs.Outside.{each_then, each_at_rest, others_same}

-- each image has P at every moment, and so Q
pub each_weaker : (area : ℕ) (P Q : List ℕ → Type 0) (old : Areas) (first last : RackState) → ((image : List ℕ) → P image → Q image) → AtEachMoment (EachImage area P old) first last → AtEachMoment (EachImage area Q old) first last
each_weaker area P Q old first last more moments =
    weaker (EachImage area P old) (EachImage area Q old) first last (λ now each. each_then area P Q old old now (others_same area old) more each) moments

-- a second step after a first: what its images have, with the others as they were before the first
pub each_after : (area : ℕ) (P Q : List ℕ → Type 0) (first mid last : RackState) → ((image : List ℕ) → P image → Q image) → AtEachMoment (EachImage area Q first.areas) first mid
    → AtEachMoment (EachImage area P mid.areas) mid last → AtEachMoment (EachImage area Q first.areas) first last
each_after area P Q first mid last more so_far then =
    let stay : OthersStay area first.areas mid.areas = so_far.now.others in
    chained (EachImage area Q first.areas) first mid last so_far
    (weaker (EachImage area P mid.areas) (EachImage area Q first.areas) mid last (λ now each. each_then area P Q first.areas mid.areas now stay more each) then)

-- over an area at rest, before the first call
pub each_started : (area : ℕ) (P : List ℕ → Type 0) (first : RackState) → IsAtRest first.areas area → P (contents_of area first) → AtEachMoment (EachImage area P first.areas) first first
each_started area P first rest here = started (EachImage area P first.areas) first (each_at_rest area P first.areas first.areas rest here (others_same area first.areas))

-- the contents of an area that is at rest with these bytes
pub contents_at_rest : (area : ℕ) (state : RackState) (bytes : List ℕ) → area_at area state.areas ≡ settled bytes → contents_of area state ≡ bytes
contents_at_rest area state bytes rest = ap (λ a. a.contents) rest

-- how long an image is that has the same bytes outside a range
outside_long : (place size : ℕ) (old image : List ℕ) → SameOutside place size old image → length image ≤ max (length old) (place + size)
outside_long place size old image same = let rest = ap length same.after in omega (arith, length-drop (place + size) image, length-drop (place + size) old)

-- the contents themselves
pub append_itself : (size : ℕ) (new : List (List ℕ)) (bytes : List ℕ) → IsAppendOf size new bytes bytes
append_itself size new bytes = record { reads = inl refl; no_shorter = omega arith; no_longer = omega arith }

pub closing_itself : (size : ℕ) (bytes : List ℕ) → IsClosingOf size bytes bytes
closing_itself size bytes = record { reads = refl; no_shorter = omega arith; no_longer = omega arith }

-- Appending: `first` before, `mid` after the record and the closed gate, `last` after the gate byte.
module _ (area place : ℕ) (bytes framed : List ℕ) (first mid last : RackState) (is_framed : framed ≡ bytes ++ 0 ∷ [])
    (is_place : place ≡ end_place (length bytes) (contents_of area first)) (closed : IsClosed (length bytes) (contents_of area first)) where
  abbrev size : ℕ
  size = length bytes

  abbrev old : List ℕ
  old = contents_of area first

  abbrev staged : List ℕ
  staged = with_bytes (place + 1) framed old

  abbrev Kept : Areas → Type 0
  Kept = EachImage area (IsAppendOf size (bytes ∷ []) old) first.areas

  frame_long : length framed ≡ size + 1
  frame_long = ap length is_framed ∙ length-append bytes (0 ∷ [])

  behind : (image : List ℕ) → SameOutside (place + 1) (length framed) old image → IsAppendOf size (bytes ∷ []) old image
  behind image same =
      let P : ℕ → List ℕ → Type 0 = λ p xs. SameOutside (p + 1) (length xs) old image in
      record {
        reads = inl (behind_keeps size old bytes refl closed image (subst (λ (p : ℕ). P p (bytes ++ 0 ∷ [])) is_place (subst (λ (xs : List ℕ). P place xs) is_framed same)));
        no_shorter = same.no_shorter;
        no_longer = omega (arith, outside_long (place + 1) (length framed) old image same, frame_long, is_place);
      }

  pub append_first : AtEachMoment (EachImage area (SameOutside (place + 1) (length framed) old) first.areas) first mid → AtEachMoment Kept first mid
  append_first moments = each_weaker area (SameOutside (place + 1) (length framed) old) (IsAppendOf size (bytes ∷ []) old) first.areas first mid behind moments

  module _ (rest : area_at area mid.areas ≡ settled staged) where
    is_staged : contents_of area mid ≡ with_bytes (end_place size old + 1) (bytes ++ 0 ∷ []) old
    is_staged =
        contents_at_rest area mid staged rest ∙ ap (λ (p : ℕ). with_bytes (p + 1) framed old) is_place ∙ ap (λ (xs : List ℕ). with_bytes (end_place size old + 1) xs old) is_framed

    pub append_place : place ≤ length (contents_of area mid)
    append_place = let long = staged_long size old bytes refl closed in omega (arith, is_place, ap length is_staged)

    stage_long : length (contents_of area mid) ≡ max (length old) (place + 1 + (size + 1))
    stage_long =
        let within : place + 1 ≤ length old = let there = closed.there in omega (arith, is_place) in
        let long = length-with_bytes (place + 1) framed old within in
        omega (arith, ap length (contents_at_rest area mid staged rest), frame_long)

    gate : (image : List ℕ) → SameOutside place 1 (contents_of area mid) image → IsAppendOf size (bytes ∷ []) old image
    gate image same =
        let P : ℕ → List ℕ → Type 0 = λ p xs. SameOutside p 1 xs image in
        let long = outside_long place 1 (contents_of area mid) image same in
        record {
          reads = gate_image size old bytes refl closed image
              (subst (λ (p : ℕ). P p (with_bytes (end_place size old + 1) (bytes ++ 0 ∷ []) old)) is_place (subst (λ (xs : List ℕ). P place xs) is_staged same));
          no_shorter = let more = same.no_shorter in omega (arith, stage_long);
          no_longer = omega (arith, stage_long, is_place);
        }

    pub append_then : AtEachMoment Kept first mid → AtEachMoment (EachImage area (SameOutside place 1 (contents_of area mid)) mid.areas) mid last → AtEachMoment Kept first last
    append_then so_far then =
        each_after area (SameOutside place 1 (contents_of area mid)) (IsAppendOf size (bytes ∷ []) old) first mid last gate so_far then

    pub append_done : area_at area last.areas ≡ settled (with_bytes place (1 ∷ []) (contents_of area mid)) → area_at area last.areas ≡ settled (with_records size (bytes ∷ []) old)
    append_done done =
        done
        ∙ ap (λ (p : ℕ). settled (with_bytes p (1 ∷ []) (contents_of area mid))) is_place
        ∙ ap (λ (xs : List ℕ). settled (with_bytes (end_place size old) (1 ∷ []) xs)) is_staged
        ∙ ap settled (written_is size old bytes refl closed)

-- closing an end where no closed gate stands
module _ (area place size : ℕ) (first last : RackState) (is_place : place ≡ end_place size (contents_of area first)) (few : length (contents_of area first) ≤ end_place size (contents_of area first) + size + 1) where
  abbrev old_bytes : List ℕ
  old_bytes = contents_of area first

  keeps : (image : List ℕ) → SameOutside place 1 old_bytes image → IsClosingOf size old_bytes image
  keeps image same = record {
    reads = end_keeps size old_bytes few image (subst (λ (p : ℕ). SameOutside p 1 old_bytes image) is_place same);
    no_shorter = same.no_shorter;
    no_longer = omega (arith, outside_long place 1 old_bytes image same, is_place);
  }

  pub closing_moments : AtEachMoment (EachImage area (SameOutside place 1 old_bytes) first.areas) first last → AtEachMoment (EachImage area (IsClosingOf size old_bytes) first.areas) first last
  closing_moments moments = each_weaker area (SameOutside place 1 old_bytes) (IsClosingOf size old_bytes) first.areas first last keeps moments

  pub closing_done : area_at area last.areas ≡ settled (with_bytes place (0 ∷ []) old_bytes) → area_at area last.areas ≡ settled (with_records size [] old_bytes)
  closing_done done = done ∙ ap (λ (p : ℕ). settled (with_bytes p (0 ∷ []) old_bytes)) is_place

-- emptying
pub reset_moments : (area size : ℕ) (first last : RackState) → 0 < length (records size (contents_of area first)) → AtEachMoment (EachImage area (SameOutside 0 1 (contents_of area first)) first.areas) first last
    → AtEachMoment (EachImage area (IsResetOf size (contents_of area first)) first.areas) first last
reset_moments area size first last some moments =
    each_weaker area (SameOutside 0 1 (contents_of area first)) (IsResetOf size (contents_of area first)) first.areas first last
    (λ image same. record {
      reads = reset_image size (contents_of area first) image some same;
      no_shorter = same.no_shorter;
      no_longer = outside_long 0 1 (contents_of area first) image same;
    }) moments

-- Reading: `first` before, `mid` after the sync, `last` after the reads.
module _ (area : ℕ) (first mid : RackState) (low : area < 3) (images : ContentsAreImages first.areas) (one : PassesOne first mid) where
  abbrev Was : List ℕ → Type 0
  Was = IsImage (area_at area first.areas)

  reading_first : AtEachMoment (EachImage area Was first.areas) first first
  reading_first = started (EachImage area Was first.areas) first (record { images = λ image is. is; others = others_same area first.areas })

  pub reading_failed : mid.areas ≡ first.areas → AtEachMoment (EachImage area Was first.areas) first mid
  reading_failed same = goes_on (EachImage area Was first.areas) first first mid reading_first one (subst (EachImage area Was first.areas) (sym same) reading_first.now)

  module _ (synced : ChangesOnly area IsSynced first.areas mid.areas) (last : RackState) (only : OnlyRead mid last) where
    areas_read : last.areas ≡ mid.areas
    areas_read = ap (λ (s : RackState). s.areas) only

    pub read_contents : contents_of area last ≡ contents_of area first
    read_contents = ap (λ (a : Areas). (area_at area a).contents) areas_read ∙ ap (λ (a : Area). a.contents) synced.changed

    pub read_rests : IsAtRest last.areas area
    read_rests = rests_same area mid.areas last.areas (ap (λ (a : Areas). area_at area a) areas_read) (rests_settled mid.areas area (contents_of area first) synced.changed)

    reading_synced : AtEachMoment (EachImage area Was first.areas) first mid
    reading_synced =
        let kept : contents_of area mid ≡ contents_of area first = ap (λ (a : Area). a.contents) synced.changed in
        goes_on (EachImage area Was first.areas) first first mid reading_first one
        (each_at_rest area Was first.areas mid.areas (rests_settled mid.areas area (contents_of area first) synced.changed) (subst Was (sym kept) (images area low)) synced.others)

    pub reading_done : AtEachMoment (EachImage area Was first.areas) first last
    reading_done = same_moment (EachImage area Was first.areas) first mid last reading_synced areas_read (ap (λ (s : RackState). s.past) only)

-- Opening: `read` after the reading, `mid` once there is room, `last` once the end is closed.
module _ (area size : ℕ) (first read mid last : RackState) (reading : AtEachMoment (EachImage area (IsImage (area_at area first.areas)) first.areas) first read) where
  abbrev Opens : List ℕ → Type 0
  Opens = IsOpeningOf area size first.areas

  pub opening_read : AtEachMoment (EachImage area Opens first.areas) first read
  opening_read =
      each_weaker area (IsImage (area_at area first.areas)) Opens first.areas first read (λ image is. record { before = image; was = is; now = closing_itself size image }) reading

  module _ (areas : mid.areas ≡ read.areas) (past : mid.past ≡ read.past) where
    pub opening_roomy : AtEachMoment (EachImage area Opens first.areas) first mid
    opening_roomy = same_moment (EachImage area Opens first.areas) first read mid opening_read areas past

    pub opening_closed : ReadsAnImage read.areas area → AtEachMoment (EachImage area (IsClosingOf size (contents_of area mid)) mid.areas) mid last → AtEachMoment (EachImage area Opens first.areas) first last
    opening_closed image closing =
        let was : IsImage (area_at area first.areas) (contents_of area read) = reading.now.images (contents_of area read) image in
        let same : contents_of area mid ≡ contents_of area read = ap (λ (a : Areas). (area_at area a).contents) areas in
        each_after area (IsClosingOf size (contents_of area mid)) Opens first mid last
        (λ it closes. record { before = contents_of area mid; was = subst (λ (xs : List ℕ). IsImage (area_at area first.areas) xs) (sym same) was; now = closes }) opening_roomy closing
