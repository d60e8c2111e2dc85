-- A write and a sync over an area of a rack, at their every moment: what they leave of it, and that they leave the others.
use Rattle.std.proofs.Common.{◌≡◌, ℕ, ◌+◌, ◌<◌, ◌≤◌, List, length, take, drop, refl, sym, ◌∙◌, ap, subst, arith, max, length-take, length-drop}
use Rattle.std.proofs.lemmas.List.{ext_get_or, get_or-take, get_or-drop}
use Rattle.replay_disk.specs.Disk.{Range, Area, Areas, RackState, area_at, contents_of, IsImage, IsTried, IsSynced, IsAtRest, ReadsAnImage, ChangesOnly, ContentsAreImages, settled}
use Rattle.replay_disk.specs.Moments.{PassesOne, AtEachMoment}
use Rattle.replay_disk.proofs.Laws.{started, goes_on, rests_settled}
use Rattle.replay_disk.proofs.Rest.{tried_no_shorter, tried_no_longer, tried_outside}
use Rattle.gate_log.specs.Log.{EachImage, OthersStay}
use Rattle.gate_log.specs.Scanning.{SameOutside}

-- an image after a write was tried over an area at rest
pub outside_at_rest : (area place size : ℕ) (old : Areas) (new : Area) (image : List ℕ) → place ≤ length (area_at area old).contents → IsAtRest old area
    → IsTried (record { place = place; size = size }) (area_at area old) new → IsImage new image → SameOutside place size (area_at area old).contents image
outside_at_rest area place size old new image within rest tried is =
    let range : Range = record { place = place; size = size } in
    let bytes : List ℕ = (area_at area old).contents in
    let shorter : length bytes ≤ length image = tried_no_shorter old area rest range new tried image is in
    let longer : length image ≤ max (length bytes) (place + size) = tried_no_longer old area rest range new tried image is in
    record {
      before = ext_get_or 0 (take place image) (take place bytes) (omega (arith, length-take place image, length-take place bytes))
          (λ k here.
          let below : k < place = omega (arith, length-take place image) in
          get_or-take place image k 0 below
          ∙ tried_outside old area rest range new tried image is k (omega arith) (λ le. absurd (omega arith))
          ∙ sym (get_or-take place bytes k 0 below));
      after = ext_get_or 0 (drop (place + size) image) (drop (place + size) bytes) (omega (arith, length-drop (place + size) image, length-drop (place + size) bytes))
          (λ k here.
          let there : place + size + k < length bytes = omega (arith, length-drop (place + size) image) in
          get_or-drop (place + size) image k 0
          ∙ tried_outside old area rest range new tried image is (place + size + k) there (λ le. omega arith)
          ∙ sym (get_or-drop (place + size) bytes k 0));
      no_shorter = shorter;
    }

-- at rest, each image is the contents
pub each_at_rest : (area : ℕ) (P : List ℕ → Type 0) (old now : Areas) → IsAtRest now area → P (area_at area now).contents → OthersStay area old now → EachImage area P old now
each_at_rest area P old now rest here others = record {
  images = λ image is. subst P (sym (rest.only image is)) here;
  others = others;
}

pub others_same : (area : ℕ) (areas : Areas) → OthersStay area areas areas
others_same area areas other low apart = refl

pub others_then : (area : ℕ) (Step : Area → Area → Type 0) (old mid new : Areas) → OthersStay area old mid → ChangesOnly area Step mid new → OthersStay area old new
others_then area Step old mid new first then other low apart = then.others other low apart ∙ first other low apart

pub each_tried : (area place size : ℕ) (old new : Areas) → place ≤ length (area_at area old).contents → IsAtRest old area → ChangesOnly area (IsTried (record { place = place; size = size })) old new
    → EachImage area (SameOutside place size (area_at area old).contents) old new
each_tried area place size old new within rest tried = record {
  images = λ image is. outside_at_rest area place size old (area_at area new) image within rest tried.changed is;
  others = tried.others;
}

pub each_synced : (area : ℕ) (P : List ℕ → Type 0) (old mid new : Areas) → area < 3 → EachImage area P old mid → ContentsAreImages mid → ChangesOnly area IsSynced mid new → EachImage area P old new
each_synced area P old mid new low each images synced =
    let kept = ap (λ (a : Area). a.contents) synced.changed in
    each_at_rest area P old new (rests_settled new area (area_at area mid).contents synced.changed)
    (subst P (sym kept) (each.images (area_at area mid).contents (images area low))) (others_then area IsSynced old mid new each.others synced)

-- the others stay, and each image keeps P or more
pub each_then : (area : ℕ) (P Q : List ℕ → Type 0) (old mid now : Areas) → OthersStay area old mid → ((image : List ℕ) → P image → Q image) → EachImage area P mid now → EachImage area Q old now
each_then area P Q old mid now stay more each = record {
  images = λ image is. more image (each.images image is);
  others = λ other low apart. each.others other low apart ∙ stay other low apart;
}

-- after a sync, what a read gives of the area is an image
pub image_synced : (area : ℕ) (mid new : Areas) → ChangesOnly area IsSynced mid new → ReadsAnImage new area
image_synced area mid new synced = (rests_settled new area (area_at area mid).contents synced.changed).image

pub image_same : (area : ℕ) (old new : Areas) → new ≡ old → ReadsAnImage old area → ReadsAnImage new area
image_same area old new same is = subst (λ (a : Areas). ReadsAnImage a area) (sym same) is

-- A write and a sync, at each moment: `first` before, `mid` after the write and `last` after the sync.
module _ (area place size : ℕ) (first mid : RackState) (tried : ChangesOnly area (IsTried (record { place = place; size = size })) first.areas mid.areas) (one : PassesOne first mid) where
  abbrev bytes : List ℕ
  bytes = contents_of area first

  abbrev Outside : Areas → Type 0
  Outside = EachImage area (SameOutside place size bytes) first.areas

  abbrev Others : Areas → Type 0
  Others = OthersStay area first.areas

  pub others_tried : AtEachMoment Others first mid
  others_tried = goes_on Others first first mid (started Others first (others_same area first.areas)) one tried.others

  pub others_failed : (last : RackState) → last.areas ≡ mid.areas → PassesOne mid last → AtEachMoment Others first last
  others_failed last same then = goes_on Others first mid last others_tried then (subst Others (sym same) tried.others)

  pub others_synced : (last : RackState) → ChangesOnly area IsSynced mid.areas last.areas → PassesOne mid last → AtEachMoment Others first last
  others_synced last synced then = goes_on Others first mid last others_tried then (others_then area IsSynced first.areas mid.areas last.areas tried.others synced)

  pub written_synced : (last : RackState) (all : List ℕ) → contents_of area mid ≡ all → ChangesOnly area IsSynced mid.areas last.areas → area_at area last.areas ≡ settled all
  written_synced last all is synced = synced.changed ∙ ap settled is

  module _ (rest : IsAtRest first.areas area) (within : place ≤ length bytes) where
    here : Outside mid.areas
    here = each_tried area place size first.areas mid.areas within rest tried

    at_first : Outside first.areas
    at_first = each_at_rest area (SameOutside place size bytes) first.areas first.areas rest (record { before = refl; after = refl; no_shorter = omega arith }) (others_same area first.areas)

    pub outside_tried : AtEachMoment Outside first mid
    outside_tried = goes_on Outside first first mid (started Outside first at_first) one here

    pub outside_failed : (last : RackState) → last.areas ≡ mid.areas → PassesOne mid last → AtEachMoment Outside first last
    outside_failed last same then = goes_on Outside first mid last outside_tried then (subst Outside (sym same) here)

    pub outside_synced : (last : RackState) → area < 3 → ContentsAreImages mid.areas → ChangesOnly area IsSynced mid.areas last.areas → PassesOne mid last → AtEachMoment Outside first last
    outside_synced last low images synced then =
        goes_on Outside first mid last outside_tried then (each_synced area (SameOutside place size bytes) first.areas mid.areas last.areas low here images synced)
