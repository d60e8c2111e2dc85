-- Laws of moments, of images and of calls, for the crates above.
use Rattle.std.proofs.Common.{◌≡◌, ℕ, ◌+◌, ◌≤◌, List, [], ◌∷◌, ◌++◌, length, refl, sym, ◌∙◌, ap, subst, arith}
use Rattle.std.specs.List.{AllByRecursion}
use Rattle.std.proofs.lemmas.List.{append-nil, append_assoc, ext_get_or}
use Rattle.mix_base.specs.Faults.{Rose}
use Rattle.replay_disk.specs.Disk.{Area, Areas, RackState, area_at, IsImage, IsAtRest, OnlyRead, Owes, settled}
use Rattle.replay_disk.specs.Moments.{PassesOne, AtEachMoment}

-- at rest, the contents are the only image
pub only_image : (bytes image : List ℕ) → IsImage (settled bytes) image → image ≡ bytes
only_image bytes image is =
    let same : length image ≡ length bytes = omega (arith, is.no_shorter, is.no_longer) in
    ext_get_or 0 image bytes same (λ k here. is.outside k (omega arith) here tt)

-- an area with nothing pending is at rest
pub rests_settled : (areas : Areas) (area : ℕ) (bytes : List ℕ) → area_at area areas ≡ settled bytes → IsAtRest areas area
rests_settled areas area bytes is = record {
  image = subst (λ (a : Area). IsImage a a.contents) (sym is) (record { no_shorter = omega arith; no_longer = omega arith; outside = λ place there here out. refl });
  only = λ image of. only_image bytes image (subst (λ (a : Area). IsImage a image) is of) ∙ sym (ap (λ (a : Area). a.contents) is);
}

pub rests_same : (area : ℕ) (old new : Areas) → area_at area new ≡ area_at area old → IsAtRest old area → IsAtRest new area
rests_same area old new same rest = record {
  image = subst (λ (a : Area). IsImage a a.contents) (sym same) rest.image;
  only = λ image of. rest.only image (subst (λ (a : Area). IsImage a image) same of) ∙ sym (ap (λ (a : Area). a.contents) same);
}

all_append : (P : Areas → Type 0) (xs ys : List Areas) → AllByRecursion P xs → AllByRecursion P ys → AllByRecursion P (xs ++ ys)
all_append P [] ys first then = then
all_append P (x ∷ xs) ys first then = (first.0, all_append P xs ys first.1 then)

all_weaker : (P Q : Areas → Type 0) (xs : List Areas) → ((areas : Areas) → P areas → Q areas) → AllByRecursion P xs → AllByRecursion Q xs
all_weaker P Q [] more all = tt
all_weaker P Q (x ∷ xs) more all = (more x all.0, all_weaker P Q xs more all.1)

-- before the first call
pub started : (P : Areas → Type 0) (state : RackState) → P state.areas → AtEachMoment P state state
started P state here = record { passed = []; grew = sym (append-nil state.past); each = tt; now = here }

-- one moment more
pub goes_on : (P : Areas → Type 0) (old mid new : RackState) → AtEachMoment P old mid → PassesOne mid new → P new.areas → AtEachMoment P old new
goes_on P old mid new so_far one here = record {
  passed = so_far.passed ++ mid.areas ∷ [];
  grew = one ∙ ap (λ (xs : List Areas). xs ++ mid.areas ∷ []) so_far.grew ∙ append_assoc old.past so_far.passed (mid.areas ∷ []);
  each = all_append P so_far.passed (mid.areas ∷ []) so_far.each (so_far.now, tt);
  now = here;
}

-- one call after the other
pub chained : (P : Areas → Type 0) (old mid new : RackState) → AtEachMoment P old mid → AtEachMoment P mid new → AtEachMoment P old new
chained P old mid new first then = record {
  passed = first.passed ++ then.passed;
  grew = then.grew ∙ ap (λ (xs : List Areas). xs ++ then.passed) first.grew ∙ append_assoc old.past first.passed then.passed;
  each = all_append P first.passed then.passed first.each then.each;
  now = then.now;
}

-- a call at whose moments less is said
pub weaker : (P Q : Areas → Type 0) (old new : RackState) → ((areas : Areas) → P areas → Q areas) → AtEachMoment P old new → AtEachMoment Q old new
weaker P Q old new more moments = record {
  passed = moments.passed;
  grew = moments.grew;
  each = all_weaker P Q moments.passed more moments.each;
  now = more new.areas moments.now;
}

-- only faults, calls or room changed
pub same_moment : (P : Areas → Type 0) (first mid last : RackState) → AtEachMoment P first mid → last.areas ≡ mid.areas → last.past ≡ mid.past → AtEachMoment P first last
same_moment P first mid last moments areas past = record { passed = moments.passed; grew = past ∙ moments.grew; each = moments.each; now = subst P (sym areas) moments.now }

pub only_read_then : (a b c : RackState) → OnlyRead a b → OnlyRead b c → OnlyRead a c
only_read_then a b c first then = then ∙ ap (λ (s : RackState). record s { faults = c.faults; calls = c.calls; left = c.left }) first
