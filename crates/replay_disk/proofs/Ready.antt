-- What the rack in memory keeps of its areas, through each of its steps.
use Rattle.std.proofs.Common.{◌≡◌, ◌≢◌, inl, inr, ℕ, zero, suc, ◌+◌, ◌-◌, ◌<◌, ◌≤◌, Bool, List, [], ◌∷◌, ◌++◌, length, get_or, refl, sym, ◌∙◌, ap, subst, arith, min}
use Rattle.std.proofs.lemmas.Bool.{cases_eq}
use Rattle.replay_disk.specs.Disk.{Range, Area, area_at, IsImage, IsTried, IsSynced, IsCrashed, ChangesOnly, ContentsAreImages, settled}
use Rattle.replay_disk.specs.Kept.{Buffer, ranges_of}
use Rattle.replay_disk.specs.MemoryRack.{Write, without_area, picked}
use Rattle.replay_disk.specs.declared.memory_disk.MemDisk.{MemDisk}
use Rattle.replay_disk.specs.MemoryDisk.{EndBy, IsReady, IsSound, IsWritten, IsSettled, OnlyLimit, ChangesBuffer, area_of, areas_of, buffer_at}
use Rattle.replay_disk.proofs.Images.{image_tried, tried_written, image_picked}
use Rattle.replay_disk.proofs.Pending.{ranges_of-push_other, EndBy-push, EndBy-weaken, EndBy-without, EndBy-gone, ranges_of-gone, ranges_of-without}

pub area_at-areas_of : (area : ℕ) (disk : MemDisk) → area < 3 → area_at area (areas_of disk) ≡ area_of area disk.log.list (buffer_at area disk)
area_at-areas_of zero disk below = refl
area_at-areas_of (suc zero) disk below = refl
area_at-areas_of (suc (suc zero)) disk below = refl
area_at-areas_of (suc (suc (suc n))) disk below = absurd (omega arith)

pub ready_at : (area room : ℕ) (disk : MemDisk) → area < 3 → IsSound disk room → IsReady area room disk.log.list (buffer_at area disk)
ready_at zero room disk below sound = sound.root
ready_at (suc zero) room disk below sound = sound.one
ready_at (suc (suc zero)) room disk below sound = sound.two
ready_at (suc (suc (suc n))) room disk below sound = absurd (omega arith)

pub sound_from : (room : ℕ) (disk : MemDisk) → ((area : ℕ) → area < 3 → IsReady area room disk.log.list (buffer_at area disk)) → room ≤ disk.log.spare → IsSound disk room
sound_from room disk each log = record { root = each 0 (omega arith); one = each 1 (omega arith); two = each 2 (omega arith); log = log }

pub images_from : (room : ℕ) (disk : MemDisk) → IsSound disk room → ContentsAreImages (areas_of disk)
images_from room disk sound area below =
    let is = area_at-areas_of area disk below in
    subst (λ (a : Area). IsImage a a.contents) (sym is) (ready_at area room disk below sound).image

-- the image of an area whose ranges stay
same_ranges : (area : ℕ) (old new : List Write) (buffer : Buffer) → ranges_of area new ≡ ranges_of area old → IsImage (area_of area old buffer) buffer.contents → IsImage (area_of area new buffer) buffer.contents
same_ranges area old new buffer same image =
    let P : List Range → Type 0 = λ rs. IsImage (record { contents = buffer.contents; synced = buffer.synced; written = rs; least = length buffer.synced; greatest = buffer.greatest }) buffer.contents in
    subst P (sym same) image

module _ (area place : ℕ) (bytes : List ℕ) (done : Bool) (room : ℕ) (some : 0 < length bytes) (fits : length bytes ≤ room) where
  abbrev write : Write
  write = record { area = area; place = place; bytes = bytes }

  ready_written : (writes : List Write) (old new : Buffer) → place ≤ length old.contents → IsReady area room writes old → IsWritten place bytes done old new → IsReady area (room - length bytes) (writes ++ write ∷ []) new
  ready_written writes old new within ready written = record {
    image = image_tried (record { place = place; size = length bytes }) (area_of area writes old) (area_of area (writes ++ write ∷ []) new) (omega arith) ready.image (tried_written area place bytes done writes old new within written);
    reaches =
        let grows = ready.grows (omega arith) in
        let long = ready.image.no_longer in
        EndBy-push area (min new.greatest new.limit) writes write (λ of. omega (arith, written.greatest, written.limit))
        (EndBy-weaken area (min old.greatest old.limit) (min new.greatest new.limit) writes (omega (arith, written.greatest, written.limit)) ready.reaches);
    grows = λ left. let grows = ready.grows (omega arith) in let long = ready.image.no_longer in omega (arith, written.greatest, written.limit);
  }

  ready_other : (other : ℕ) (writes : List Write) (buffer : Buffer) → other ≢ area → IsReady other room writes buffer → IsReady other (room - length bytes) (writes ++ write ∷ []) buffer
  ready_other other writes buffer apart ready =
      let differs : area ≢ other = λ e. apart (sym e) in record {
        image = same_ranges other writes (writes ++ write ∷ []) buffer (ranges_of-push_other other area place bytes writes differs) ready.image;
        reaches = EndBy-push other (min buffer.greatest buffer.limit) writes write (λ of. absurd (differs of)) ready.reaches;
        grows = λ left. let grows = ready.grows (omega arith) in omega arith;
      }

  pub sound_written : (old new : MemDisk) → area < 3 → place ≤ length (buffer_at area old).contents → IsSound old room → ChangesBuffer area (IsWritten place bytes done) old new
      → new.log.list ≡ old.log.list ++ write ∷ [] → old.log.spare ≤ new.log.spare + length bytes → IsSound new (room - length bytes)
  sound_written old new below within sound changes list spare =
      sound_from (room - length bytes) new
      (λ n low. subst (λ (ws : List Write). IsReady n (room - length bytes) ws (buffer_at n new)) (sym list) (elim (cases_eq n area) [
        | inl is ↦ subst (λ (m : ℕ). IsReady m (room - length bytes) (old.log.list ++ write ∷ []) (buffer_at m new)) (sym is)
            (ready_written old.log.list (buffer_at area old) (buffer_at area new) within (ready_at area room old below sound) changes.changed)
        | inr apart ↦ rw (changes.others n low apart) (ready_other n old.log.list (buffer_at n old) apart (ready_at n room old low sound))
      ]))
      (let log = sound.log in omega arith)

  pub tried_from : (old new : MemDisk) → area < 3 → place ≤ length (buffer_at area old).contents → ChangesBuffer area (IsWritten place bytes done) old new → new.log.list ≡ old.log.list ++ write ∷ []
      → ChangesOnly area (IsTried (record { place = place; size = length bytes })) (areas_of old) (areas_of new)
  tried_from old new below within changes list = record {
    changed =
        let range : Range = record { place = place; size = length bytes } in
        let tried : IsTried range (area_of area old.log.list (buffer_at area old)) (area_of area (old.log.list ++ write ∷ []) (buffer_at area new)) =
        tried_written area place bytes done old.log.list (buffer_at area old) (buffer_at area new) within changes.changed in
        let listed : IsTried range (area_of area old.log.list (buffer_at area old)) (area_of area new.log.list (buffer_at area new)) =
        subst (λ (ws : List Write). IsTried range (area_of area old.log.list (buffer_at area old)) (area_of area ws (buffer_at area new))) (sym list) tried in
        let first : IsTried range (area_at area (areas_of old)) (area_of area new.log.list (buffer_at area new)) =
        subst (λ (a : Area). IsTried range a (area_of area new.log.list (buffer_at area new))) (sym (area_at-areas_of area old below)) listed in
        subst (λ (a : Area). IsTried range (area_at area (areas_of old)) a) (sym (area_at-areas_of area new below)) first;
    others = λ other low apart.
        let differs : area ≢ other = λ e. apart (sym e) in
        let same : area_of other new.log.list (buffer_at other new) ≡ area_of other old.log.list (buffer_at other old) =
        let F : List Range → Buffer → Area = λ rs b. record { contents = b.contents; synced = b.synced; written = rs; least = length b.synced; greatest = b.greatest } in
        let ranges : ranges_of other new.log.list ≡ ranges_of other old.log.list = ap (λ (ws : List Write). ranges_of other ws) list ∙ ranges_of-push_other other area place bytes old.log.list differs in
        (λ i. F (ranges i) (changes.others other low apart i)) in
        area_at-areas_of other new low ∙ same ∙ sym (area_at-areas_of other old low);
  }

-- at rest, with no writes of its own pending
ready_settled : (area room : ℕ) (writes : List Write) (left : List ℕ) (old new : Buffer) → IsSettled left old new → ranges_of area writes ≡ [] → EndBy area (min new.greatest new.limit) writes
    → length left ≤ old.greatest → (0 < room → room + old.greatest ≤ old.limit) → IsReady area room writes new
ready_settled area room writes left old new is none ends long grows = record {
  image = record {
    no_shorter = omega (arith, ap length is.synced, ap length is.contents);
    no_longer = omega (arith, is.greatest, ap length is.contents);
    outside = λ k here there out. ap (λ (xs : List ℕ). get_or xs k 0) (is.contents ∙ sym is.synced);
  };
  reaches = ends;
  grows = λ some. let enough = grows some in omega (arith, is.greatest, is.limit);
}

ready_without : (area room gone : ℕ) (writes : List Write) (buffer : Buffer) → area ≢ gone → IsReady area room writes buffer → IsReady area room (without_area gone writes) buffer
ready_without area room gone writes buffer apart ready = record {
  image = same_ranges area writes (without_area gone writes) buffer (ranges_of-without area gone writes apart) ready.image;
  reaches = EndBy-without area (min buffer.greatest buffer.limit) gone writes ready.reaches;
  grows = ready.grows;
}

module _ (area room : ℕ) (old new : MemDisk) (below : area < 3) (changes : ChangesBuffer area (IsSettled (buffer_at area old).contents) old new) (list : new.log.list ≡ without_area area old.log.list) where
  pub sound_synced : IsSound old room → old.log.spare ≤ new.log.spare → IsSound new room
  sound_synced sound spare =
      sound_from room new
      (λ n low. subst (λ (ws : List Write). IsReady n room ws (buffer_at n new)) (sym list) (elim (cases_eq n area) [
        | inl is ↦
            let ready = ready_at area room old below sound in
            subst (λ (m : ℕ). IsReady m room (without_area area old.log.list) (buffer_at m new)) (sym is)
            (ready_settled area room (without_area area old.log.list) (buffer_at area old).contents (buffer_at area old) (buffer_at area new) changes.changed
            (ranges_of-gone area old.log.list) (EndBy-gone area (min (buffer_at area new).greatest (buffer_at area new).limit) old.log.list) ready.image.no_longer ready.grows)
        | inr apart ↦ rw (changes.others n low apart) (ready_without n room area old.log.list (buffer_at n old) apart (ready_at n room old low sound))
      ]))
      (let log = sound.log in omega arith)

  pub synced_from : ChangesOnly area IsSynced (areas_of old) (areas_of new)
  synced_from =
      let F : List Range → Buffer → Area = λ rs b. record { contents = b.contents; synced = b.synced; written = rs; least = length b.synced; greatest = b.greatest } in record {
        changed =
            let ranges : ranges_of area new.log.list ≡ [] = ap (λ (ws : List Write). ranges_of area ws) list ∙ ranges_of-gone area old.log.list in
            let left = (buffer_at area old).contents in
            let is = changes.changed in
            let same : area_of area new.log.list (buffer_at area new) ≡ settled left =
            (λ i. record { contents = is.contents i; synced = is.synced i; written = ranges i; least = length (is.synced i); greatest = is.greatest i }) in
            area_at-areas_of area new below ∙ same ∙ ap (λ (a : Area). settled a.contents) (sym (area_at-areas_of area old below));
        others = λ other low apart.
            let ranges : ranges_of other new.log.list ≡ ranges_of other old.log.list = ap (λ (ws : List Write). ranges_of other ws) list ∙ ranges_of-without other area old.log.list apart in
            let same : area_of other new.log.list (buffer_at other new) ≡ area_of other old.log.list (buffer_at other old) = (λ i. F (ranges i) (changes.others other low apart i)) in
            area_at-areas_of other new low ∙ same ∙ sym (area_at-areas_of other old low);
      }

-- more room
pub ready_limit : (area room more : ℕ) (writes : List Write) (old new : Buffer) → IsReady area room writes old → OnlyLimit old new → (0 < more → more + old.greatest ≤ new.limit) → IsReady area more writes new
ready_limit area room more writes old new ready only grows =
    let F : Buffer → Area = λ b. area_of area writes b in
    let same : area_of area writes new ≡ area_of area writes old = (λ i. record { contents = only.contents i; synced = only.synced i; written = ranges_of area writes; least = length (only.synced i); greatest = only.greatest i }) in
    record {
      image = rw (same, only.contents) ready.image;
      reaches = EndBy-weaken area (min old.greatest old.limit) (min new.greatest new.limit) writes (omega (arith, only.greatest, only.limit)) ready.reaches;
      grows = λ some. let enough = grows some in omega (arith, only.greatest);
    }

-- what a pick leaves of an area is one of its images
pub crashed_image : (area room pick : ℕ) (writes : List Write) (old : Buffer) → IsReady area room writes old → IsImage (area_of area writes old) (picked area pick writes old.synced)
crashed_image area room pick writes old ready =
    let shorter = ready.image.no_shorter in
    let longer = ready.image.no_longer in
    image_picked area pick writes old (EndBy-weaken area (min old.greatest old.limit) old.greatest writes (omega arith) ready.reaches) (omega arith)

-- after a crash an area is at rest
pub ready_crashed : (area room pick : ℕ) (writes : List Write) (old new : Buffer) → IsReady area room writes old → IsSettled (picked area pick writes old.synced) old new → IsReady area room [] new
ready_crashed area room pick writes old new ready is =
    let image = crashed_image area room pick writes old ready in
    ready_settled area room [] (picked area pick writes old.synced) old new is refl tt image.no_longer ready.grows

pub sound_limits : (room more : ℕ) (old new : MemDisk) → IsSound old room → OnlyLimit old.root new.root → OnlyLimit old.one new.one → OnlyLimit old.two new.two → new.log.list ≡ old.log.list
    → (0 < more → more + old.root.greatest ≤ new.root.limit) → (0 < more → more + old.one.greatest ≤ new.one.limit) → (0 < more → more + old.two.greatest ≤ new.two.limit) → more ≤ new.log.spare → IsSound new more
sound_limits room more old new sound root one two list root_grows one_grows two_grows log =
    let R : ℕ → Buffer → List Write → Type 0 = λ n b ws. IsReady n more ws b in record {
      root = subst (λ (ws : List Write). R 0 new.root ws) (sym list) (ready_limit 0 room more old.log.list old.root new.root sound.root root root_grows);
      one = subst (λ (ws : List Write). R 1 new.one ws) (sym list) (ready_limit 1 room more old.log.list old.one new.one sound.one one one_grows);
      two = subst (λ (ws : List Write). R 2 new.two ws) (sym list) (ready_limit 2 room more old.log.list old.two new.two sound.two two two_grows);
      log = log;
    }

pub ends_in_limit : (area room : ℕ) (writes : List Write) (buffer : Buffer) → IsReady area room writes buffer → EndBy area buffer.limit writes
ends_in_limit area room writes buffer ready = EndBy-weaken area (min buffer.greatest buffer.limit) buffer.limit writes (omega arith) ready.reaches

module _ (room pick : ℕ) (old new : MemDisk) (sound : IsSound old room) (root : IsSettled (picked 0 pick old.log.list old.root.synced) old.root new.root)
    (one : IsSettled (picked 1 pick old.log.list old.one.synced) old.one new.one) (two : IsSettled (picked 2 pick old.log.list old.two.synced) old.two new.two) (list : new.log.list ≡ []) where
  pub sound_crashed : old.log.spare ≤ new.log.spare → IsSound new room
  sound_crashed spare = record {
    root = subst (λ (ws : List Write). IsReady 0 room ws new.root) (sym list) (ready_crashed 0 room pick old.log.list old.root new.root sound.root root);
    one = subst (λ (ws : List Write). IsReady 1 room ws new.one) (sym list) (ready_crashed 1 room pick old.log.list old.one new.one sound.one one);
    two = subst (λ (ws : List Write). IsReady 2 room ws new.two) (sym list) (ready_crashed 2 room pick old.log.list old.two new.two sound.two two);
    log = let log = sound.log in omega arith;
  }

  settled_in : (area : ℕ) → area < 3 → IsSettled (picked area pick old.log.list (buffer_at area old).synced) (buffer_at area old) (buffer_at area new)
  settled_in zero below = root
  settled_in (suc zero) below = one
  settled_in (suc (suc zero)) below = two
  settled_in (suc (suc (suc n))) below = absurd (omega arith)

  -- each area is left at rest as the pick says
  pub picked_in : (area : ℕ) → area < 3 → area_at area (areas_of new) ≡ settled (picked area pick old.log.list (area_at area (areas_of old)).synced)
  picked_in area below =
      let is = settled_in area below in
      let left : List ℕ = picked area pick old.log.list (buffer_at area old).synced in
      let ranges : ranges_of area new.log.list ≡ [] = ap (λ (ws : List Write). ranges_of area ws) list in
      let same : area_of area new.log.list (buffer_at area new) ≡ settled left =
      (λ i. record { contents = is.contents i; synced = is.synced i; written = ranges i; least = length (is.synced i); greatest = is.greatest i }) in
      area_at-areas_of area new below ∙ same ∙ ap (λ (a : Area). settled (picked area pick old.log.list a.synced)) (sym (area_at-areas_of area old below))

  pub crashed_from : IsCrashed (areas_of old) (areas_of new)
  crashed_from area below =
      let left : List ℕ = picked area pick old.log.list (area_at area (areas_of old)).synced in
      let at = area_at-areas_of area old below in
      let image = crashed_image area room pick old.log.list (buffer_at area old) (ready_at area room old below sound) in
      (left, subst (λ (a : Area). IsImage a (picked area pick old.log.list a.synced)) (sym at) image, picked_in area below)
