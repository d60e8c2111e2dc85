-- Kept disks are read one after the other: their lines, what ends the call, and what becomes of each.
use Rattle.std.proofs.Common.{◌≡◌, ◌≢◌, ◌⊎◌, inl, inr, ℕ, zero, suc, ◌+◌, ◌-◌, ◌^◌, ◌<◌, ◌≤◌, true, false, leb, List, [], ◌∷◌, ◌++◌, length, take, drop, set, get_or, map}
use Rattle.std.proofs.Common.{Option, Some, None, option_map, Result, Ok, Err, IfOk, IfErr, IsErrOf, IfSome, IsSomeAnd, refl, sym, ap, subst, ◌∙◌, arith}
use Rattle.std.specs.List.{slice_get}
use Rattle.std.specs.Result.{is_ok, result_err}
use Rattle.std.proofs.lemmas.Bool.Decides.{leb_tells}
use Rattle.std.proofs.lemmas.List.{append_assoc, append-nil, drop-drop, drop-set-lt, length-drop, length-set, length-take, length-take-le, map-set, nil_from_length}
use Rattle.std.proofs.lemmas.Option.{slice_get-get_or, slice_get-map, slice_get_within}
use Rattle.mix_base.specs.Results.{◌>>=◌}
use Rattle.mix_base.specs.Writing.{GivesFront}
use Rattle.mix_base.specs.declared.shards.Shape.{Shape}
use Rattle.mix_base.specs.declared.writing.PutFault.{PutFault}
use Rattle.mix_base.specs.declared.writing.PutFault.TheVariants as puts
use Rattle.replay_disk.specs.Disk.{OnlyRead, Owes, RackState}
use Rattle.spent_store.specs.Books.{StoredBook}
use Rattle.spent_store.specs.Faults.{Refuses}
use Rattle.spent_store.specs.Stores.{book_in, told}
use Rattle.spent_store.specs.declared.faults.Objection.{Objection}
use Rattle.spent_store.specs.declared.faults.Objection.TheVariants as objections
use Rattle.spent_store.specs.declared.faults.OpenStore.{OpenStore}
use Rattle.spent_store.specs.declared.faults.OpenStore.TheVariants as faults
use Rattle.lab_text.specs.Given.{Gave}
use Rattle.lab_text.specs.declared.statuses.Status.{Status}
use Rattle.lab_text.specs.declared.statuses.Status.TheVariants.{Done, Words, Line, Key, ReadFault, WriteFault, Foreign, OtherShape, Memory, NoThread, NoKey, NoLine, Disk}
use Rattle.mix_top.specs.Look.{AnswersLook, AreRead, EndsLook, IsFrontOf, IsRead, ReachesDisk, line_on, line_or_status, lines_from, lines_on, objection_status}
use Rattle.mix_top.specs.Looking.{IsLookStop, ReadBelow, StopsLook, fault_status}
use Rattle.mix_top.specs.ReceivingLaws.{gave_nothing}
use Rattle.mix_top.specs.Storming.{status_of_put}

-- ---- lines of disks behind those of others

behind_all : (rest : Result (List ℕ) Status) → rest ≡ rest >>= (λ others. Ok ([] ++ others))
behind_all (Ok others) = refl
behind_all (Err status) = refl

behind_one : (line more rest : Result (List ℕ) Status)
    → line >>= (λ l. (more >>= (λ t. rest >>= (λ o. Ok (t ++ o)))) >>= (λ o. Ok (l ++ o)))
    ≡ (line >>= (λ l. more >>= (λ o. Ok (l ++ o)))) >>= (λ t. rest >>= (λ o. Ok (t ++ o)))
behind_one (Err status) more rest = refl
behind_one (Ok l) (Err status) rest = refl
behind_one (Ok l) (Ok t) (Err status) = refl
behind_one (Ok l) (Ok t) (Ok o) = ap Ok (sym (append_assoc l t o))

pub lines-append : (shards index : ℕ) (first others : List RackState)
    → lines_from shards index (first ++ others)
    ≡ lines_from shards index first >>= (λ text. lines_from shards (index + length first) others >>= (λ more. Ok (text ++ more)))
lines-append shards index [] others =
    let same : index ≡ index + 0 = omega arith in
    ap (λ (i : ℕ). lines_from shards i others) same ∙ behind_all (lines_from shards (index + 0) others)
lines-append shards index (rack ∷ racks) others =
    let line = line_on (record { shards = shards; index = index }) rack in
    let same : index + 1 + length racks ≡ index + length (rack ∷ racks) = omega arith in
    ap (λ (more : Result (List ℕ) Status). line >>= (λ l. more >>= (λ o. Ok (l ++ o)))) (lines-append shards (index + 1) racks others)
    ∙ behind_one line (lines_from shards (index + 1) racks) (lines_from shards (index + 1 + length racks) others)
    ∙ ap (λ (i : ℕ). lines_from shards index (rack ∷ racks) >>= (λ text. lines_from shards i others >>= (λ more. Ok (text ++ more)))) same

-- the lines of disks of which the first so many have this text: what the next decides
lines_reach : (shards place : ℕ) (racks rest : List RackState) (rack : RackState) (text : List ℕ) → length racks ≡ place → lines_from shards 0 racks ≡ Ok text
    → lines_from shards 0 (racks ++ rack ∷ rest)
    ≡ (line_on (record { shards = shards; index = place }) rack >>= (λ line. lines_from shards (place + 1) rest >>= (λ others. Ok (line ++ others))))
    >>= (λ more. Ok (text ++ more))
lines_reach shards place racks rest rack text size before =
    let here : 0 + length racks ≡ place = omega (arith, size) in
    lines-append shards 0 racks (rack ∷ rest)
    ∙ ap (λ (first : Result (List ℕ) Status). first >>= (λ t. lines_from shards (0 + length racks) (rack ∷ rest) >>= (λ more. Ok (t ++ more)))) before
    ∙ ap (λ (i : ℕ). lines_from shards i (rack ∷ rest) >>= (λ more. Ok (text ++ more))) here

-- the first so many, of which one is this disk
taken_reach : (place count : ℕ) (racks : List RackState) (rack : RackState) → slice_get racks place ≡ Some rack → place < count
    → take count racks ≡ take place racks ++ rack ∷ drop (suc place) (take count racks)
taken_reach place zero racks rack there below = absurd (omega (arith, below))
taken_reach place (suc count) [] rack there below = absurd (cc)
taken_reach zero (suc count) (first ∷ racks) rack there below = let same : first ≡ rack = cc in ap (λ (r : RackState). r ∷ take count racks) same
taken_reach (suc place) (suc count) (first ∷ racks) rack there below =
    ap (λ (l : List RackState). first ∷ l) (taken_reach place count racks rack there (omega (arith, below)))

pub line_more : (shards place : ℕ) (racks : List RackState) (rack : RackState) (text line : List ℕ) → slice_get racks place ≡ Some rack
    → lines_on shards place racks ≡ Ok text → line_on (record { shards = shards; index = place }) rack ≡ Ok line
    → lines_on shards (place + 1) racks ≡ Ok (text ++ line)
line_more shards place racks rack text line there before now =
    let size = length-take-le place racks (omega (arith, slice_get_within racks place rack there)) in
    let whole = taken_reach place (place + 1) racks rack there (omega arith) in
    let none : drop (suc place) (take (place + 1) racks) ≡ [] =
    nil_from_length (drop (suc place) (take (place + 1) racks)) (omega (arith, length-drop (suc place) (take (place + 1) racks), length-take (place + 1) racks)) in
    ap (lines_from shards 0) (whole ∙ ap (λ (rest : List RackState). take place racks ++ rack ∷ rest) none)
    ∙ lines_reach shards place (take place racks) [] rack text size before
    ∙ ap (λ (found : Result (List ℕ) Status). (found >>= (λ l. Ok (l ++ []))) >>= (λ more. Ok (text ++ more))) now
    ∙ ap (λ (l : List ℕ). Ok (text ++ l)) (append-nil line)

line_stops : (shards place : ℕ) (racks : List RackState) (rack : RackState) (text : List ℕ) (status : Status) → slice_get racks place ≡ Some rack
    → lines_on shards place racks ≡ Ok text → line_on (record { shards = shards; index = place }) rack ≡ Err status → place < shards
    → lines_on shards shards racks ≡ Err status
line_stops shards place racks rack text status there before now below =
    let size = length-take-le place racks (omega (arith, slice_get_within racks place rack there)) in
    let rest = drop (suc place) (take shards racks) in
    ap (lines_from shards 0) (taken_reach place shards racks rack there below)
    ∙ lines_reach shards place (take place racks) rest rack text size before
    ∙ ap (λ (found : Result (List ℕ) Status). (found >>= (λ l. lines_from shards (place + 1) rest >>= (λ others. Ok (l ++ others)))) >>= (λ more. Ok (text ++ more))) now

objected : (shape : Shape) (book : Result StoredBook Objection) (objection : Objection) → result_err book ≡ Some objection
    → line_or_status shape (told book) ≡ Err (objection_status shape objection)
objected shape (Ok book) objection is = absurd (cc)
objected shape (Err other) objection is = let same : other ≡ objection = cc in ap (λ (o : Objection). Err (objection_status shape o)) same

-- how a disk that gave no book ends the call
pub fault_stops : (shards place : ℕ) (racks : List RackState) (rack : RackState) (text : List ℕ) (fault : OpenStore) → slice_get racks place ≡ Some rack
    → lines_on shards place racks ≡ Ok text → place < shards
    → Refuses fault (result_err (book_in rack.areas (record { shards = shards; index = place }) (2 ^ 26)))
    → StopsLook shards racks (fault_status (record { shards = shards; index = place }) fault)
fault_stops shards place racks rack text (faults.Foreign area at) there before below refuses =
    let shape : Shape = record { shards = shards; index = place } in
    line_stops shards place racks rack text (Foreign 0 place area at) there before
    (objected shape (book_in rack.areas shape (2 ^ 26)) (objections.Foreign area at) refuses) below
fault_stops shards place racks rack text (faults.OtherShape stored) there before below refuses =
    let shape : Shape = record { shards = shards; index = place } in
    line_stops shards place racks rack text (OtherShape 0 place stored shape) there before
    (objected shape (book_in rack.areas shape (2 ^ 26)) (objections.OtherShape stored) refuses) below
fault_stops shards place racks rack text faults.Failed there before below refuses = ap is_ok before
fault_stops shards place racks rack text faults.Memory there before below refuses = tt

pub is_stop : (shards place : ℕ) (fault : OpenStore) → place < shards → IsLookStop shards (fault_status (record { shards = shards; index = place }) fault)
is_stop shards place (faults.Foreign area at) below = tt
is_stop shards place (faults.OtherShape stored) below = tt
is_stop shards place faults.Failed below = (refl, below)
is_stop shards place faults.Memory below = tt

-- ---- what becomes of the disks

slice_get-drop : (place index : ℕ) (racks : List RackState) → slice_get (drop place racks) index ≡ slice_get racks (place + index)
slice_get-drop zero index racks = let same : index ≡ 0 + index = omega arith in ap (slice_get racks) same
slice_get-drop (suc place) index [] = refl
slice_get-drop (suc place) index (rack ∷ racks) =
    let same : suc (place + index) ≡ suc place + index = omega arith in
    slice_get-drop place index racks ∙ ap (slice_get (rack ∷ racks)) same

-- where lists are alike from a place on, they have the same at each place behind
alike_behind : (place index : ℕ) (old new : List RackState) → drop place new ≡ drop place old → place ≤ index → slice_get new index ≡ slice_get old index
alike_behind place index old new alike behind =
    let same : place + (index - place) ≡ index = omega (arith, behind) in
    ap (slice_get new) (sym same) ∙ sym (slice_get-drop place (index - place) new)
    ∙ ap (λ (l : List RackState). slice_get l (index - place)) alike
    ∙ slice_get-drop place (index - place) old ∙ ap (slice_get old) same

drop_further : (place count : ℕ) (old new : List RackState) → drop place new ≡ drop place old → place ≤ count → drop count new ≡ drop count old
drop_further place count old new alike within =
    let same : place + (count - place) ≡ count = omega (arith, within) in
    ap (λ (n : ℕ). drop n new) (sym same) ∙ sym (drop-drop (count - place) place new) ∙ ap (drop (count - place)) alike
    ∙ drop-drop (count - place) place old ∙ ap (λ (n : ℕ). drop n old) same

-- what stands at a place after one was set
set_at : (racks : List RackState) (place index : ℕ) (after rack : RackState) → slice_get (set racks place after) index ≡ Some rack
    → ((index ≡ place) × (after ≡ rack)) ⊎ ((index ≢ place) × (slice_get racks index ≡ Some rack))
set_at [] place index after rack found = absurd (cc)
set_at (first ∷ racks) zero zero after rack found = let same : after ≡ rack = cc in inl (refl, same)
set_at (first ∷ racks) zero (suc index) after rack found = inr (λ same. absurd (omega (arith, same)), found)
set_at (first ∷ racks) (suc place) zero after rack found = inr (λ same. absurd (omega (arith, same)), found)
set_at (first ∷ racks) (suc place) (suc index) after rack found = shifted (set_at racks place index after rack found)
  where
    shifted : ((index ≡ place) × (after ≡ rack)) ⊎ ((index ≢ place) × (slice_get racks index ≡ Some rack))
        → ((suc index ≡ suc place) × (after ≡ rack)) ⊎ ((suc index ≢ suc place) × (slice_get racks index ≡ Some rack))
    shifted (inl (same, is)) = inl (ap suc same, is)
    shifted (inr (other, found)) = inr (λ same. other (omega (arith, same)), found)

pub none_read : (racks : List RackState) → AreRead 0 Done racks racks
none_read racks = record {
  count = refl;
  first = λ index was is below before now. absurd (omega (arith, below));
  others = refl;
}

-- a disk that was read without a failure didn't fail, whatever another did
unfailed : (status : Status) (index : ℕ) (old new : RackState) → (status ≢ Disk 0 index) → IsRead (Done ≡ Disk 0 index) old new
    → IsRead (status ≡ Disk 0 index) old new
unfailed status index old new other read = record {
  same = read.same;
  rose = λ failed. absurd (other failed);
  no_fault = λ never. read.no_fault (λ same. absurd (cc));
}

module _ (place : ℕ) (old new : List RackState) (before after : RackState) (status : Status) where
  first_more : AreRead place Done old new → slice_get new place ≡ Some before → IsRead (status ≡ Disk 0 place) before after
      → ((index : ℕ) → status ≡ Disk 0 index → index ≡ place) → (index : ℕ) (was is : RackState) → index < place + 1 → slice_get old index ≡ Some was
      → ((index ≡ place) × (after ≡ is)) ⊎ ((index ≢ place) × (slice_get new index ≡ Some is)) → IsRead (status ≡ Disk 0 index) was is
  first_more read there now names index was is below had (inl (same, after_is)) =
      let was_there : slice_get old place ≡ Some before = sym (alike_behind place place old new read.others (omega arith)) ∙ there in
      let had_there : slice_get old place ≡ Some was = subst (λ (i : ℕ). slice_get old i ≡ Some was) same had in
      let before_is : before ≡ was = cc in
      subst (λ (i : ℕ). IsRead (status ≡ Disk 0 i) was is) (sym same)
      (subst (λ (r : RackState). IsRead (status ≡ Disk 0 place) r is) before_is
      (subst (λ (r : RackState). IsRead (status ≡ Disk 0 place) before r) after_is now))
  first_more read there now names index was is below had (inr (other, has)) =
      unfailed status index was is (λ named. other (names index named)) (read.first index was is (omega (arith, below, other)) had has)

  pub read_more : AreRead place Done old new → slice_get new place ≡ Some before → IsRead (status ≡ Disk 0 place) before after
      → ((index : ℕ) → status ≡ Disk 0 index → index ≡ place) → AreRead (place + 1) status old (set new place after)
  read_more read there now names = record {
    count = length-set new place after ∙ read.count;
    first = λ index was is below had has. first_more read there now names index was is below had (set_at new place index after is has);
    others = drop-set-lt (place + 1) new place after (omega arith) ∙ drop_further place (place + 1) old new read.others (omega arith);
  }

-- disks behind those that were read are as they were
module _ (place shards : ℕ) (old new : List RackState) (status : Status) where
  first_up : AreRead place status old new → ((index : ℕ) → status ≡ Disk 0 index → index < place) → (index : ℕ) (was is : RackState)
      → slice_get old index ≡ Some was → slice_get new index ≡ Some is
      → ((leb place index ≡ true) × (place ≤ index)) ⊎ ((leb place index ≡ false) × (index < place)) → IsRead (status ≡ Disk 0 index) was is
  first_up read names index was is had has (inr (test, below)) = read.first index was is below had has
  first_up read names index was is had has (inl (test, behind)) =
      let there = alike_behind place index old new read.others behind in
      let same : was ≡ is = cc in
      subst (λ (r : RackState). IsRead (status ≡ Disk 0 index) was r) same (record {
        same = refl;
        rose = λ named. absurd (omega (arith, behind, names index named));
        no_fault = λ never. refl;
      })

  pub read_up : AreRead place status old new → ((index : ℕ) → status ≡ Disk 0 index → index < place) → place ≤ shards → AreRead shards status old new
  read_up read names within = record {
    count = read.count;
    first = λ index was is below had has. first_up read names index was is had has (leb_tells place index);
    others = drop_further place shards old new read.others within;
  }

-- ---- a turn of the reading

-- what a reading was to its disk: it failed just where it says so
read_once : {X : Type 0} (result : Result X OpenStore) (most place : ℕ) (status : Status) (old new : RackState)
    → OnlyRead old new → Owes most (IsErrOf result faults.Failed) old new
    → (status ≡ Disk 0 place → IsErrOf result faults.Failed) → (IsErrOf result faults.Failed → status ≡ Disk 0 place)
    → IsRead (status ≡ Disk 0 place) old new
read_once result most place status old new same owes named names = record {
  same = same;
  rose = λ is. owes.rose (named is);
  no_fault = λ never. owes.no_fault (λ failed. never (names failed));
}

-- a disk that gave no book is named where it failed
fault_named : (shards place index : ℕ) (fault : OpenStore) → fault_status (record { shards = shards; index = place }) fault ≡ Disk 0 index
    → (fault ≡ faults.Failed) × (index ≡ place)
fault_named shards place index (faults.Foreign area at) is = absurd (cc)
fault_named shards place index (faults.OtherShape stored) is = absurd (cc)
fault_named shards place index faults.Failed is = let same : index ≡ place = cc in (refl, same)
fault_named shards place index faults.Memory is = absurd (cc)

module _ {D X : Type 0} (state : D → RackState) (tells : Type 0) (shards place most : ℕ) (initial disks : List D) (default after : D) (text : List ℕ)
    (read : ReadBelow tells shards place text (map state initial) (map state disks)) (within : place < length disks)
    (result : Result X OpenStore) (same : OnlyRead (state (get_or disks place default)) (state after))
    (owes : Owes most (IsErrOf result faults.Failed) (state (get_or disks place default)) (state after)) where
  -- the disk of this turn, which is as it was at first
  here : slice_get (map state disks) place ≡ Some (state (get_or disks place default))
  here = slice_get-map state disks place ∙ ap (option_map state) (slice_get-get_or disks place default within)

  first_here : slice_get (map state initial) place ≡ Some (state (get_or disks place default))
  first_here = sym (alike_behind place place (map state initial) (map state disks) read.disks.others (omega arith)) ∙ here

  now : (status : Status) → IsRead (status ≡ Disk 0 place) (state (get_or disks place default)) (state after)
      → ((index : ℕ) → status ≡ Disk 0 index → index ≡ place) → AreRead (place + 1) status (map state initial) (map state (set disks place after))
  now status is_read names =
      subst (λ (racks : List RackState). AreRead (place + 1) status (map state initial) racks) (sym (map-set state disks place after))
      (read_more place (map state initial) (map state disks) (state (get_or disks place default)) (state after) status read.disks here is_read names)

  -- it gave a book
  now_well : (status : Status) (value : X) → result ≡ Ok value → ((index : ℕ) → status ≢ Disk 0 index)
      → AreRead (place + 1) status (map state initial) (map state (set disks place after))
  now_well status value is other =
      now status (read_once result most place status (state (get_or disks place default)) (state after) same owes (λ named. absurd (other place named)) (λ failed. absurd (cc)))
      (λ index named. absurd (other index named))

  pub line_read : (value : X) (line : List ℕ) → result ≡ Ok value
      → (tells → line_on (record { shards = shards; index = place }) (state (get_or disks place default)) ≡ Ok line)
      → ReadBelow tells shards (place + 1) (text ++ line) (map state initial) (map state (set disks place after))
  line_read value line is on = record {
    lines = λ told. line_more shards place (map state initial) (state (get_or disks place default)) text line first_here (read.lines told) (on told);
    disks = now_well Done value is (λ index named. absurd (cc));
  }

  -- and then memory ran out
  pub line_unkept : (value : X) → result ≡ Ok value → place < shards → AreRead shards Memory (map state initial) (map state (set disks place after))
  line_unkept value is below =
      read_up (place + 1) shards (map state initial) (map state (set disks place after)) Memory (now_well Memory value is (λ index named. absurd (cc)))
      (λ index named. absurd (cc)) (omega (arith, below))

  -- it gave none
  pub none_given : (fault : OpenStore) → result ≡ Err fault → place < shards
      → (tells → Refuses fault (result_err (book_in (state (get_or disks place default)).areas (record { shards = shards; index = place }) (2 ^ 26))))
      → IsLookStop shards (fault_status (record { shards = shards; index = place }) fault)
      × (tells → StopsLook shards (map state initial) (fault_status (record { shards = shards; index = place }) fault))
      × AreRead shards (fault_status (record { shards = shards; index = place }) fault) (map state initial) (map state (set disks place after))
  none_given fault is below refuses =
      let status = fault_status (record { shards = shards; index = place }) fault in
      let failed : status ≡ Disk 0 place → IsErrOf result faults.Failed = λ named. is ∙ ap Err (fault_named shards place place fault named).0 in
      let names : IsErrOf result faults.Failed → status ≡ Disk 0 place = λ was.
      let same_fault : fault ≡ faults.Failed = cc in ap (fault_status (record { shards = shards; index = place })) same_fault in
      let is_read = read_once result most place status (state (get_or disks place default)) (state after) same owes failed names in (
        is_stop shards place fault below,
        (λ told. fault_stops shards place (map state initial) (state (get_or disks place default)) text fault first_here (read.lines told) below (refuses told)),
        read_up (place + 1) shards (map state initial) (map state (set disks place after)) status (now status is_read (λ index named. (fault_named shards place index fault named).1))
            (λ index named. omega (arith, (fault_named shards place index fault named).1)) (omega (arith, below)),
      )

-- ---- the promise

gave_all : (text : List ℕ) (before after : Option (List ℕ)) → IfSome before (λ first. after ≡ Some (first ++ text)) → Gave before after (λ given. given ≡ text)
gave_all text None after whole = tt
gave_all text (Some first) None whole = absurd (cc)
gave_all text (Some first) (Some last) whole = let same : last ≡ first ++ text = cc in (text, same, refl)

gave_part : (text : List ℕ) (before after : Option (List ℕ)) → IfSome before (λ first. IsSomeAnd after (λ last. GivesFront first last text))
    → (bytes : List ℕ) × IsFrontOf (Ok text) bytes × Gave before after (λ given. given ≡ bytes)
gave_part text None after front = ([], (text, 0, refl, refl), tt)
gave_part text (Some first) None front = absurd front
gave_part text (Some first) (Some last) (count, same) = (take count text, (text, count, refl, refl), (take count text, same, refl))

-- no status of a put names a disk
no_disk : (put : Result (Unit {0}) PutFault) (index : ℕ) → status_of_put put ≢ Disk 0 index
no_disk (Ok done) index same = absurd (cc)
no_disk (Err puts.WriteFault) index same = absurd (cc)
no_disk (Err puts.Memory) index same = absurd (cc)

reaches_none : (put : Result (Unit {0}) PutFault) (shards : ℕ) (racks : List RackState) → ReachesDisk shards racks (status_of_put put)
reaches_none (Ok done) shards racks = tt
reaches_none (Err puts.WriteFault) shards racks = tt
reaches_none (Err puts.Memory) shards racks = tt

module _ (tells : Type 0) (shards : ℕ) (old new : List RackState) where
  -- all disks were read, and their lines put
  pub look_put : (text : List ℕ) (put : Result (Unit {0}) PutFault) (before after : Option (List ℕ)) → ReadBelow tells shards shards text old new
      → IfOk put (λ done. IfSome before (λ first. after ≡ Some (first ++ text)))
      → IfErr put (λ fault. IfSome before (λ first. IsSomeAnd after (λ last. GivesFront first last text)))
      → AnswersLook tells shards (status_of_put put) before after old new
  look_put text put before after read whole front =
      let ended = ends put whole front in
      record {
        lines = Ok text;
        of_disks = λ told. sym (read.lines told);
        bytes = ended.0;
        ends = ended.1;
        given = ended.2;
        reaches = λ told. reaches_none put shards old;
        disks = record {
          count = read.disks.count;
          first = λ index was is below had has. unfailed (status_of_put put) index was is (no_disk put index) (read.disks.first index was is below had has);
          others = read.disks.others;
        };
      }
    where
      ends : (put : Result (Unit {0}) PutFault) → IfOk put (λ done. IfSome before (λ first. after ≡ Some (first ++ text)))
          → IfErr put (λ fault. IfSome before (λ first. IsSomeAnd after (λ last. GivesFront first last text)))
          → (bytes : List ℕ) × EndsLook shards (Ok text) (status_of_put put) bytes × Gave before after (λ given. given ≡ bytes)
      ends (Ok done) whole front = (text, refl, gave_all text before after whole)
      ends (Err puts.WriteFault) whole front = gave_part text before after front
      ends (Err puts.Memory) whole front = let gave = gave_part text before after front in (gave.0, inr gave.1, gave.2)

  -- what a status that ends the reading says of the lines
  stopped : (status : Status) → IsLookStop shards status → (tells → StopsLook shards old status)
      → (lines : Result (List ℕ) Status) × (tells → lines ≡ lines_on shards shards old) × EndsLook shards lines status [] × (tells → ReachesDisk shards old status)
  stopped (Foreign node shard area at) kind stops = (Err (Foreign node shard area at), (λ told. sym (stops told)), (refl, refl), λ told. tt)
  stopped (OtherShape node shard stored asked) kind stops = (Err (OtherShape node shard stored asked), (λ told. sym (stops told)), (refl, refl), λ told. tt)
  stopped Memory kind stops = (lines_on shards shards old, (λ told. refl), inl refl, λ told. tt)
  stopped (Disk node shard) kind stops = (lines_on shards shards old, (λ told. refl), (kind.0, kind.1, refl), stops)
  stopped Done kind stops = absurd kind
  stopped Words kind stops = absurd kind
  stopped (Line line) kind stops = absurd kind
  stopped (Key key) kind stops = absurd kind
  stopped ReadFault kind stops = absurd kind
  stopped WriteFault kind stops = absurd kind
  stopped NoThread kind stops = absurd kind
  stopped (NoKey epoch) kind stops = absurd kind
  stopped NoLine kind stops = absurd kind

  -- a disk, or want of memory, ended the call
  pub look_stopped : (status : Status) (given : Option (List ℕ)) → IsLookStop shards status → (tells → StopsLook shards old status)
      → AreRead shards status old new → AnswersLook tells shards status given given old new
  look_stopped status given kind stops read =
      let ended = stopped status kind stops in
      record {
        lines = ended.0;
        of_disks = ended.1;
        bytes = [];
        ends = ended.2;
        given = gave_nothing given;
        reaches = ended.3;
        disks = read;
      }
