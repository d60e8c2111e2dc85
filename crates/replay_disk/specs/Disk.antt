-- The disk model: what contracts see of a rack's three areas, what a crash may leave of one, and what each call owes.
use Rattle.std.specs.Prelude.{◌≡◌, ◌≢◌, ⊤, ℕ, zero, suc, ◌+◌, ◌-◌, ◌<◌, ◌≤◌, min, max, List, [], ◌∷◌, ◌++◌, length, take, drop, slice_index, Option, Some, None}
use Rattle.mix_base.specs.Faults.{Rose}

-- where a write went: its place and how many bytes it had
pub record Range : Type 0 where
  pub place : ℕ
  pub size : ℕ

-- one area: what a read gives, what its last sync left, the ranges written since, first to last, and the least and
-- the greatest length that it has had since
pub record Area : Type 0 where
  pub contents : List ℕ
  pub synced : List ℕ
  pub written : List Range
  pub least : ℕ
  pub greatest : ℕ

pub record Areas : Type 0 where
  pub root : Area
  pub one : Area
  pub two : Area

-- the area of a number: 0 is the root
abbrev pub area_at : ℕ → Areas → Area
area_at zero areas = areas.root
area_at (suc zero) areas = areas.one
area_at (suc (suc n)) areas = areas.two

-- no write since the last sync touched this place: where it is at or past a range's place, it is past its end
abbrev pub IsOutside : ℕ → List Range → Type 0
IsOutside place [] = ⊤
IsOutside place (range ∷ ranges) = (range.place ≤ place → range.place + range.size ≤ place) × IsOutside place ranges

-- An image: bytes that a crash may leave of an area. Outside the written ranges they are as the last sync left
-- them; inside these, and past the old end, they may be anything; their number is between the two lengths.
pub record IsImage (area : Area) (image : List ℕ) : Type 0 where
  pub no_shorter : area.least ≤ length image
  pub no_longer : length image ≤ area.greatest
  pub outside : (place : ℕ) → place < length area.synced → place < length image → IsOutside place area.written
      → slice_index image place ≡ slice_index area.synced place

-- what a read gives of an area is itself an image of it
abbrev pub ReadsAnImage : Areas → ℕ → Type 0
ReadsAnImage areas area = IsImage (area_at area areas) (area_at area areas).contents

-- and so in each area
abbrev pub ContentsAreImages : Areas → Type 0
ContentsAreImages areas = (area : ℕ) → area < 3 → ReadsAnImage areas area

-- an area with these contents and nothing pending: its contents are its only image
abbrev pub settled : List ℕ → Area
settled bytes = record { contents = bytes; synced = bytes; written = []; least = length bytes; greatest = length bytes }

-- the contents with these bytes at a place, and otherwise as they were
abbrev pub with_bytes : ℕ → List ℕ → List ℕ → List ℕ
with_bytes place bytes old = take place old ++ bytes ++ drop (place + length bytes) old

-- A write of a range was tried, and may have failed: the range is pending. What a read gives outside it stays.
pub record IsTried (range : Range) (old new : Area) : Type 0 where
  pub written : new.written ≡ old.written ++ range ∷ []
  pub synced : new.synced ≡ old.synced
  pub least : new.least ≡ old.least
  pub greatest : new.greatest ≡ max old.greatest (range.place + range.size)
  pub no_shorter : length old.contents ≤ length new.contents
  pub no_longer : length new.contents ≤ max (length old.contents) (range.place + range.size)
  pub outside : (place : ℕ) → place < length old.contents → IsOutside place (range ∷ [])
      → slice_index new.contents place ≡ slice_index old.contents place

-- a sync that succeeded: the contents are on the disk
abbrev pub IsSynced : Area → Area → Type 0
IsSynced old new = new ≡ settled old.contents

-- one area changed so, and the others stay
pub record ChangesOnly (area : ℕ) (Step : Area → Area → Type 0) (old new : Areas) : Type 0 where
  pub changed : Step (area_at area old) (area_at area new)
  pub others : (other : ℕ) → other < 3 → other ≢ area → area_at other new ≡ area_at other old

-- a crash: each area has one of its images as contents, and nothing is pending
abbrev pub IsCrashed : Areas → Areas → Type 0
IsCrashed old new = (area : ℕ) → area < 3 → (image : List ℕ) × IsImage (area_at area old) image × (area_at area new ≡ settled image)

-- At rest: an area's contents are its one image, so a crash leaves them.
pub record IsAtRest (areas : Areas) (area : ℕ) : Type 0 where
  pub image : ReadsAnImage areas area
  pub only : (image : List ℕ) → IsImage (area_at area areas) image → image ≡ (area_at area areas).contents

-- each of the three is at rest
abbrev pub AreAtRest : Areas → Type 0
AreAtRest areas = (area : ℕ) → area < 3 → IsAtRest areas area

-- What contracts see of a rack: its areas now, and those of all its earlier moments, oldest first; how often it has
-- failed; how many bytes it can still be given; how many calls were made of it; how many are left before all fail,
-- where it is armed; and the numbers that `arm` and `crash` were given.
pub record RackState : Type 0 where
  pub areas : Areas
  pub past : List Areas
  pub faults : ℕ
  pub room : ℕ
  pub calls : ℕ
  pub left : Option ℕ
  pub arms : List ℕ
  pub crashes : List ℕ

-- what a read gives of an area
abbrev pub contents_of : ℕ → RackState → List ℕ
contents_of area state = (area_at area state.areas).contents

-- armed at the call of a number: that many less one are left, or fewer where it was armed already
abbrev pub armed_at : ℕ → Option ℕ → Option ℕ
armed_at number None = Some (number - 1)
armed_at number (Some n) = Some (min n (number - 1))

-- one call less is left
abbrev pub one_less : Option ℕ → Option ℕ
one_less None = None
one_less (Some n) = Some (n - 1)

-- no call was made, and nothing changed
abbrev pub MadeNoCall : RackState → RackState → Type 0
MadeNoCall old new = new ≡ old

-- the rack was only read: nothing changed but its faults and its calls
abbrev pub OnlyRead : RackState → RackState → Type 0
OnlyRead old new = new ≡ record old { faults = new.faults; calls = new.calls; left = new.left }

-- What each call owes that is lent a rack, `failed` where its answer is that the rack failed: the count of faults rose
-- then, and in no other answer; at most so many calls were made of the rack; and nobody armed or crashed it.
pub record Owes (most : ℕ) (failed : Type 0) (old new : RackState) : Type 0 where
  pub rose : failed → Rose old.faults new.faults
  pub no_fault : ¬ failed → new.faults ≡ old.faults
  pub no_fewer : old.calls ≤ new.calls
  pub calls : new.calls ≤ old.calls + most
  pub arms : new.arms ≡ old.arms
  pub crashes : new.crashes ≡ old.crashes

-- a read of n bytes from a place: as many as there are, and as the buffer holds
pub record ReadsFrom (place : ℕ) (contents old new : List ℕ) (n : ℕ) : Type 0 where
  pub count : n ≡ min (length old) (length contents - place)
  pub bytes : take n new ≡ take n (drop place contents)
