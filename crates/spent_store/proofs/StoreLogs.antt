-- The logs of a store, and those of its book.
use Rattle.std.proofs.Common.{◌≡◌, ℕ, zero, suc, ◌+◌, ◌<◌, ◌≤◌, ◌==◌, ◌||◌, inl, inr, nat_le, nat_lt, if◌then◌else◌, Some, None, sum_by, add_assoc, Bool, true, false, List, [], ◌∷◌, ◌++◌, length, get_or, set, take, map, filter, refl, sym, ◌∙◌, ap, subst, arith}
use Rattle.std.specs.List.{AllByRecursion, list_any}
use Rattle.std.proofs.lemmas.Bool.{cases_Bool, cases_eq, cases_lt, lt-leb, lt-ltb, le-ltb, eq-eqb, ne_eqb, eqb-false, or_parts}
use Rattle.std.proofs.lemmas.List.{length-append, map-append}
use Rattle.std.proofs.lemmas.List.Sums.{sum_by-cons}
use Rattle.gate_log.specs.Log.{LogState}
use Rattle.spent_store.specs.Books.{StoredBook, EpochLog, distinct_count, has_begun, is_spent}
use Rattle.spent_store.specs.Changes.{raised, begun_with, added, log_with}
use Rattle.spent_store.proofs.ClaimLaws.{pair_count, count_here, count_elsewhere, raised_roots, raised_below, begun_roots, has_begun-raised}
use Rattle.spent_store.specs.Journals.{is_full, claim_refusal}
use Rattle.spent_store.specs.Kept.{IsOfStore, IsRootOf, AreOfStore, AreNearLogs, book_with}
use Rattle.spent_store.proofs.NearLaws.{near_kept}
use Rattle.spent_store.specs.Root.{AreNear}
use Rattle.spent_store.specs.declared.faults.ClaimFault.TheVariants.{ShardFull}
use Rattle.spent_store.specs.declared.root.RootRecord.{RootRecord}
use Rattle.spent_store.specs.declared.root.RootRecord.TheVariants.{Begin, Floor}
use Rattle.spent_store.specs.TagLogs.{TagLogState, epoch_log}

-- looked for in the store's logs, as in the book's
pub any_log : (test : EpochLog → Bool) (logs : List TagLogState) → list_any test (map epoch_log logs) ≡ list_any (λ (log : TagLogState). test (epoch_log log)) logs
any_log test [] = refl
any_log test (log ∷ logs) = ap (λ (later : Bool). test (epoch_log log) || later) (any_log test logs)

-- ---- one log is changed in memory alone

-- one log at a place changed, and stands for the same
pub same_logs : (logs : List TagLogState) (i : ℕ) (old log : TagLogState) → i < length logs → old ≡ get_or logs i old → epoch_log log ≡ epoch_log old → map epoch_log (set logs i log) ≡ map epoch_log logs
same_logs [] i old log within is same = absurd (omega arith)
same_logs (first ∷ logs) zero old log within is same = λ j. (same ∙ ap epoch_log is) j ∷ map epoch_log logs
same_logs (first ∷ logs) (suc i) old log within is same = ap (λ (rest : List EpochLog). epoch_log first ∷ rest) (same_logs logs i old log (omega arith) is same)

pub all_with : {X : Type 0} (P : X → Type 0) (xs : List X) (x : X) → AllByRecursion P xs → P x → AllByRecursion P (xs ++ x ∷ [])
all_with P [] x all here = (here, tt)
all_with P (y ∷ ys) x all here = (all.0, all_with P ys x all.1 here)

pub all_set : {X : Type 0} (P : X → Type 0) (xs : List X) (i : ℕ) (x : X) → AllByRecursion P xs → P x → AllByRecursion P (set xs i x)
all_set P [] i x all here = tt
all_set P (y ∷ ys) zero x all here = (here, all.1)
all_set P (y ∷ ys) (suc i) x all here = (all.0, all_set P ys i x all.1 here)

pub all_at : {X : Type 0} (P : X → Type 0) (xs : List X) (i : ℕ) (x : X) → i < length xs → AllByRecursion P xs → P (get_or xs i x)
all_at P [] i x within all = absurd (omega arith)
all_at P (y ∷ ys) zero x within all = all.0
all_at P (y ∷ ys) (suc i) x within all = all_at P ys i x (omega arith) all.1

taken : {X : Type 0} (P : X → Type 0) (xs : List X) (i : ℕ) (x : X) → AllByRecursion P (take i xs) → P x → AllByRecursion P (take (suc i) (set xs i x))
taken P [] i x all here = tt
taken P (y ∷ ys) zero x all here = (here, tt)
taken P (y ∷ ys) (suc i) x all here = (all.0, taken P ys i x all.1 here)

pub all_taken : {X : Type 0} (P : X → Type 0) (xs : List X) (i : ℕ) (x : X) → AllByRecursion P (take i xs) → P x → AllByRecursion P (take (i + 1) (set xs i x))
all_taken P xs i x all here = let next : i + 1 ≡ suc i = omega arith in rw next (taken P xs i x all here)

pub of_store_spare : (limit : ℕ) (sound ready : Bool) (old log : TagLogState) → log ≡ record old { spare = log.spare } → IsOfStore limit sound false old → (ready ≡ true → 0 < log.spare) → IsOfStore limit sound ready log
of_store_spare limit sound ready old log is kept room = record {
  same_limit = ap (λ (l : TagLogState). l.limit) is ∙ kept.same_limit;
  is_sound = λ holds. ap (λ (l : TagLogState). l.is_sound) is ∙ kept.is_sound holds;
  room = room;
}

-- ---- a floor drops logs

pub kept_logs : (floor : ℕ) (logs : List TagLogState) → map epoch_log (filter (λ (log : TagLogState). nat_le floor log.epoch) logs) ≡ filter (λ (log : EpochLog). nat_le floor log.epoch) (map epoch_log logs)
kept_logs floor [] = refl
kept_logs floor (log ∷ logs) =
    elim (cases_Bool (nat_le floor log.epoch)) [
      | inl kept ↦ rw kept (ap (λ (rest : List EpochLog). epoch_log log ∷ rest) (kept_logs floor logs))
      | inr dropped ↦ rw dropped (kept_logs floor logs)
    ]

pub raised_kept : (floor : ℕ) (book : StoredBook) (logs kept : List TagLogState) (roots : List RootRecord) → book.floor < floor → map epoch_log logs ≡ book.logs
    → kept ≡ filter (λ (log : TagLogState). nat_le floor log.epoch) logs → roots ≡ book.roots ++ Floor floor ∷ [] → book_with floor kept roots ≡ raised floor book
raised_kept floor book logs kept roots above are_logs are_kept are_roots =
    let kept_there : map epoch_log kept ≡ filter (λ (log : EpochLog). nat_le floor log.epoch) book.logs
    = ap (λ (some : List TagLogState). map epoch_log some) are_kept ∙ kept_logs floor logs ∙ ap (λ (some : List EpochLog). filter (λ (log : EpochLog). nat_le floor log.epoch) some) are_logs in
    rw (lt-leb floor book.floor above) (λ i. record { floor = floor; logs = kept_there i; roots = are_roots i })

all_kept : (P : TagLogState → Type 0) (floor : ℕ) (logs : List TagLogState) → AllByRecursion P logs → AllByRecursion P (filter (λ (log : TagLogState). nat_le floor log.epoch) logs)
all_kept P floor [] all = tt
all_kept P floor (log ∷ logs) all =
    elim (cases_Bool (nat_le floor log.epoch)) [
      | inl kept ↦ rw kept (all.0, all_kept P floor logs all.1)
      | inr dropped ↦ rw dropped (all_kept P floor logs all.1)
    ]

pub of_store_kept : (limit : ℕ) (sound ready : Bool) (floor : ℕ) (logs kept : List TagLogState) → kept ≡ filter (λ (log : TagLogState). nat_le floor log.epoch) logs → AreOfStore limit sound ready logs → AreOfStore limit sound ready kept
of_store_kept limit sound ready floor logs kept are_kept all =
    subst (λ (some : List TagLogState). AreOfStore limit sound ready some) (sym are_kept) (all_kept (IsOfStore limit sound ready) floor logs all)

kept_epochs : (floor : ℕ) (logs : List TagLogState) → map (λ (log : TagLogState). log.epoch) (filter (λ (log : TagLogState). nat_le floor log.epoch) logs) ≡ filter (λ epoch. nat_le floor epoch) (map (λ (log : TagLogState). log.epoch) logs)
kept_epochs floor [] = refl
kept_epochs floor (log ∷ logs) =
    elim (cases_Bool (nat_le floor log.epoch)) [
      | inl kept ↦ rw kept (ap (λ (rest : List ℕ). log.epoch ∷ rest) (kept_epochs floor logs))
      | inr dropped ↦ rw dropped (kept_epochs floor logs)
    ]

pub near_logs_kept : (old floor : ℕ) (logs kept : List TagLogState) → old < floor → kept ≡ filter (λ (log : TagLogState). nat_le floor log.epoch) logs → AreNearLogs old logs → AreNearLogs floor kept
near_logs_kept old floor logs kept above are_kept near =
    subst (λ (epochs : List ℕ). AreNear floor epochs) (sym (ap (λ (some : List TagLogState). map (λ (log : TagLogState). log.epoch) some) are_kept ∙ kept_epochs floor logs))
    (near_kept old floor (map (λ (log : TagLogState). log.epoch) logs) near above)

-- ---- a tag is spent

pub any_epoch : (epoch : ℕ) (logs : List TagLogState) → list_any (λ other. other == epoch) (map (λ (log : EpochLog). log.epoch) (map epoch_log logs)) ≡ list_any (λ (log : TagLogState). log.epoch == epoch) logs
any_epoch epoch [] = refl
any_epoch epoch (log ∷ logs) = ap (λ (later : Bool). log.epoch == epoch || later) (any_epoch epoch logs)

pub all_mapped : (P : EpochLog → Type 0) (logs : List TagLogState) (i : ℕ) (log : TagLogState) → i < length logs → log ≡ get_or logs i log → AllByRecursion P (map epoch_log logs) → P (epoch_log log)
all_mapped P [] i log within is all = absurd (omega arith)
all_mapped P (first ∷ logs) zero log within is all = subst (λ (l : TagLogState). P (epoch_log l)) (sym is) all.0
all_mapped P (first ∷ logs) (suc i) log within is all = all_mapped P logs i log (omega arith) is all.1

-- a log has no more tags than there are pairs of its epoch
pub count_at : (epoch : ℕ) (logs : List TagLogState) (i : ℕ) (log : TagLogState) → i < length logs → log ≡ get_or logs i log → log.epoch ≡ epoch → length log.tags ≤ pair_count epoch (map epoch_log logs)
count_at epoch [] i log within is of_epoch = absurd (omega arith)
count_at epoch (first ∷ logs) zero log within is of_epoch =
    let same : first.epoch ≡ epoch = sym (ap (λ (l : TagLogState). l.epoch) is) ∙ of_epoch in
    omega (arith, count_here epoch (epoch_log first) (map epoch_log logs) same, ap (λ (l : TagLogState). length l.tags) is)
count_at epoch (first ∷ logs) (suc i) log within is of_epoch =
    let later = count_at epoch logs i log (omega arith) is of_epoch in
    elim (cases_eq first.epoch epoch) [
      | inl here ↦ omega (arith, later, count_here epoch (epoch_log first) (map epoch_log logs) here)
      | inr elsewhere ↦ omega (arith, later, count_elsewhere epoch (epoch_log first) (map epoch_log logs) elsewhere)
    ]

pub set_epochs : (logs : List TagLogState) (i : ℕ) (old log : TagLogState) → i < length logs → old ≡ get_or logs i old → log.epoch ≡ old.epoch
    → map (λ (l : TagLogState). l.epoch) (set logs i log) ≡ map (λ (l : TagLogState). l.epoch) logs
set_epochs [] i old log within is same = absurd (omega arith)
set_epochs (first ∷ logs) zero old log within is same = λ j. (same ∙ ap (λ (l : TagLogState). l.epoch) is) j ∷ map (λ (l : TagLogState). l.epoch) logs
set_epochs (first ∷ logs) (suc i) old log within is same = ap (λ (rest : List ℕ). first.epoch ∷ rest) (set_epochs logs i old log (omega arith) is same)

pub near_set : (floor : ℕ) (logs : List TagLogState) (i : ℕ) (old log : TagLogState) → i < length logs → old ≡ get_or logs i old → log.epoch ≡ old.epoch → AreNearLogs floor logs → AreNearLogs floor (set logs i log)
near_set floor logs i old log within is same near = subst (λ (epochs : List ℕ). AreNear floor epochs) (sym (set_epochs logs i old log within is same)) near

-- the log of another epoch stays
log_stays : (epoch : ℕ) (tags : List (List ℕ)) (log : EpochLog) → (log.epoch ≡ epoch → ⊥) → log_with epoch tags log ≡ log
log_stays epoch tags log differ = rw (ne_eqb log.epoch epoch differ) refl

log_longer : (epoch : ℕ) (tags : List (List ℕ)) (log : EpochLog) → log.epoch ≡ epoch → log_with epoch tags log ≡ record { epoch = log.epoch; tags = log.tags ++ tags }
log_longer epoch tags log same = rw (eq-eqb log.epoch epoch same) refl

-- one log got the tags, and no other is of its epoch
pub added_at : (floor epoch : ℕ) (tags : List (List ℕ)) (logs : List TagLogState) (i : ℕ) (old log : TagLogState) → AreNearLogs floor logs → i < length logs → old ≡ get_or logs i old → old.epoch ≡ epoch
    → epoch_log log ≡ record { epoch = old.epoch; tags = old.tags ++ tags } → map epoch_log (set logs i log) ≡ map (log_with epoch tags) (map epoch_log logs)
added_at floor epoch tags [] i old log near within is same longer = absurd (omega arith)
added_at floor epoch tags (a ∷ []) zero old log near within is same longer =
    let e : a.epoch ≡ epoch = sym (ap (λ (l : TagLogState). l.epoch) is) ∙ same in
    let first : epoch_log log ≡ log_with epoch tags (epoch_log a) = longer ∙ ap (λ (l : TagLogState). record { epoch = l.epoch; tags = l.tags ++ tags }) is ∙ sym (log_longer epoch tags (epoch_log a) e) in
    λ j. first j ∷ []
added_at floor epoch tags (a ∷ []) (suc i) old log near within is same longer = absurd (omega arith)
added_at floor epoch tags (a ∷ b ∷ []) zero old log near within is same longer =
    let e : a.epoch ≡ epoch = sym (ap (λ (l : TagLogState). l.epoch) is) ∙ same in
    let first : epoch_log log ≡ log_with epoch tags (epoch_log a) = longer ∙ ap (λ (l : TagLogState). record { epoch = l.epoch; tags = l.tags ++ tags }) is ∙ sym (log_longer epoch tags (epoch_log a) e) in
    let second : epoch_log b ≡ log_with epoch tags (epoch_log b) = sym (log_stays epoch tags (epoch_log b) (λ other. near.2 (e ∙ sym other))) in
    λ j. first j ∷ second j ∷ []
added_at floor epoch tags (a ∷ b ∷ []) (suc zero) old log near within is same longer =
    let e : b.epoch ≡ epoch = sym (ap (λ (l : TagLogState). l.epoch) is) ∙ same in
    let first : epoch_log a ≡ log_with epoch tags (epoch_log a) = sym (log_stays epoch tags (epoch_log a) (λ other. near.2 (other ∙ sym e))) in
    let second : epoch_log log ≡ log_with epoch tags (epoch_log b) = longer ∙ ap (λ (l : TagLogState). record { epoch = l.epoch; tags = l.tags ++ tags }) is ∙ sym (log_longer epoch tags (epoch_log b) e) in
    λ j. first j ∷ second j ∷ []
added_at floor epoch tags (a ∷ b ∷ []) (suc (suc i)) old log near within is same longer = absurd (omega arith)
added_at floor epoch tags (a ∷ b ∷ c ∷ others) i old log near within is same longer = absurd near

-- logs of an unsound store, and of one that isn't ready
pub of_store_spent : (limit : ℕ) (sound ready : Bool) (logs : List TagLogState) → AreOfStore limit sound ready logs → AreOfStore limit sound false logs
of_store_spent limit sound ready [] all = tt
of_store_spent limit sound ready (log ∷ logs) all = (record { same_limit = all.0.same_limit; is_sound = all.0.is_sound; room = λ never. absurd (cc) }, of_store_spent limit sound ready logs all.1)

pub of_store_unsound : (limit : ℕ) (sound ready : Bool) (logs : List TagLogState) → AreOfStore limit sound ready logs → AreOfStore limit false ready logs
of_store_unsound limit sound ready [] all = tt
of_store_unsound limit sound ready (log ∷ logs) all = (record { same_limit = all.0.same_limit; is_sound = λ never. absurd (cc); room = all.0.room }, of_store_unsound limit sound ready logs all.1)

pub root_unsound : (limit : ℕ) (sound : Bool) (roots : List RootRecord) (root : LogState) → IsRootOf limit sound roots root → IsRootOf limit false roots root
root_unsound limit sound roots root is = record { area = is.area; size = is.size; same_limit = is.same_limit; count = is.count; is_sound = λ never. absurd (cc); made = is.made }

pub root_failed : (limit : ℕ) (sound : Bool) (roots : List RootRecord) (root failed : LogState) → failed ≡ record root { sound = false } → IsRootOf limit sound roots root → IsRootOf limit false roots failed
root_failed limit sound roots root failed same is =
    subst (λ (log : LogState). IsRootOf limit false roots log) (sym same) (record { area = is.area; size = is.size; same_limit = is.same_limit; count = is.count; is_sound = λ never. absurd (cc); made = is.made })

-- ---- an epoch begins

-- no log is of the epoch
none_stay : (epoch : ℕ) (tags : List (List ℕ)) (logs : List EpochLog) → list_any (λ other. other == epoch) (map (λ (log : EpochLog). log.epoch) logs) ≡ false → map (log_with epoch tags) logs ≡ logs
none_stay epoch tags [] new = refl
none_stay epoch tags (log ∷ logs) new =
    let parts = or_parts (log.epoch == epoch) _ new in
    λ i. log_stays epoch tags log (eqb-false log.epoch epoch parts.0) i ∷ none_stay epoch tags logs parts.1 i

-- it got a log with its first tags
pub begun_pushed : (epoch floor : ℕ) (tags : List (List ℕ)) (book : StoredBook) (logs pushed : List TagLogState) (log : TagLogState) (roots : List RootRecord) → has_begun epoch book ≡ false → floor ≡ book.floor
    → map epoch_log logs ≡ book.logs → pushed ≡ logs ++ log ∷ [] → epoch_log log ≡ record { epoch = epoch; tags = tags } → roots ≡ book.roots ++ Begin epoch ∷ []
    → book_with floor pushed roots ≡ added epoch tags (begun_with epoch book)
begun_pushed epoch floor tags book logs pushed log roots new is_floor are_logs are_pushed is are_roots =
    let fresh : EpochLog = record { epoch = epoch; tags = [] } in
    let here : map epoch_log pushed ≡ book.logs ++ record { epoch = epoch; tags = tags } ∷ []
    = ap (λ (some : List TagLogState). map epoch_log some) are_pushed ∙ map-append epoch_log logs (log ∷ []) ∙ (λ i. are_logs i ++ is i ∷ []) in
    let there : map (log_with epoch tags) (book.logs ++ fresh ∷ []) ≡ book.logs ++ record { epoch = epoch; tags = tags } ∷ []
    = map-append (log_with epoch tags) book.logs (fresh ∷ []) ∙ (λ i. none_stay epoch tags book.logs new i ++ log_longer epoch tags fresh refl i ∷ []) in
    rw new (λ i. record { floor = is_floor i; logs = (here ∙ sym there) i; roots = are_roots i })

pub pushed_epochs : (epoch : ℕ) (logs pushed : List TagLogState) (log : TagLogState) → pushed ≡ logs ++ log ∷ [] → log.epoch ≡ epoch
    → map (λ (l : EpochLog). l.epoch) (map epoch_log pushed) ≡ map (λ (l : EpochLog). l.epoch) (map epoch_log logs) ++ epoch ∷ []
pushed_epochs epoch logs pushed log are_pushed is =
    ap (λ (some : List TagLogState). map (λ (l : EpochLog). l.epoch) (map epoch_log some)) are_pushed
    ∙ ap (λ (some : List EpochLog). map (λ (l : EpochLog). l.epoch) some) (map-append epoch_log logs (log ∷ []))
    ∙ map-append (λ (l : EpochLog). l.epoch) (map epoch_log logs) (epoch_log log ∷ [])
    ∙ (λ i. map (λ (l : EpochLog). l.epoch) (map epoch_log logs) ++ is i ∷ [])

-- ---- the counts that a claim is judged by

pub pairs_summed : (epoch : ℕ) (logs : List TagLogState) → sum_by (λ (log : TagLogState). if log.epoch == epoch then length log.tags else 0) logs ≡ pair_count epoch (map epoch_log logs)
pairs_summed epoch [] = refl
pairs_summed epoch (log ∷ logs) =
    let sum = sum_by-cons (λ (l : TagLogState). if l.epoch == epoch then length l.tags else 0) log logs in
    let rest = pairs_summed epoch logs in
    elim (cases_eq log.epoch epoch) [
      | inl here ↦
          let first : (if log.epoch == epoch then length log.tags else 0) ≡ length log.tags = rw (eq-eqb log.epoch epoch here) refl in
          omega (arith, sum, rest, first, count_here epoch (epoch_log log) (map epoch_log logs) here)
      | inr elsewhere ↦
          let first : (if log.epoch == epoch then length log.tags else 0) ≡ 0 = rw (ne_eqb log.epoch epoch elsewhere) refl in
          omega (arith, sum, rest, first, count_elsewhere epoch (epoch_log log) (map epoch_log logs) elsewhere)
    ]

begun_count : (epoch : ℕ) (book : StoredBook) → length (begun_with epoch book).roots ≡ length book.roots + (if has_begun epoch book then 0 else 1)
begun_count epoch book =
    elim (cases_Bool (has_begun epoch book)) [
      | inl there ↦ rw there (omega arith)
      | inr new ↦ ap length (begun_roots epoch book new) ∙ length-append book.roots (Begin epoch ∷ []) ∙ (rw new refl)
    ]

raised_count : (floor : ℕ) (book : StoredBook) → length (raised floor book).roots ≡ length book.roots + (if nat_lt book.floor floor then 1 else 0)
raised_count floor book =
    elim (cases_lt book.floor floor) [
      | inl above ↦ ap length (raised_roots floor book above) ∙ length-append book.roots (Floor floor ∷ []) ∙ (rw (lt-ltb book.floor floor above) refl)
      | inr below ↦ ap (λ (b : StoredBook). length b.roots) (raised_below floor book below) ∙ (rw (le-ltb book.floor floor below) (omega arith))
    ]

pub claimed_count : (epoch least : ℕ) (book : StoredBook) → least ≤ epoch
    → length (begun_with epoch (raised least book)).roots ≡ length book.roots + ((if nat_lt book.floor least then 1 else 0) + (if has_begun epoch book then 0 else 1))
claimed_count epoch least book low =
    let second = begun_count epoch (raised least book) ∙ (λ i. length (raised least book).roots + (if has_begun-raised least epoch book low i then 0 else 1)) in
    second ∙ ap (λ (n : ℕ). n + (if has_begun epoch book then 0 else 1)) (raised_count least book) ∙ add_assoc (length book.roots) (if nat_lt book.floor least then 1 else 0) (if has_begun epoch book then 0 else 1)

pub full_by : (limit epoch least : ℕ) (book : StoredBook) (count total : ℕ) → count ≡ pair_count epoch book.logs → total ≡ length (begun_with epoch (raised least book)).roots
    → (nat_le limit count || nat_lt limit total) ≡ is_full limit epoch least book
full_by limit epoch least book count total is_count is_total = λ i. nat_le limit (is_count i) || nat_lt limit (is_total i)

-- ---- refusals

pub refused_full : (limit epoch : ℕ) (tag : List ℕ) (least : ℕ) (book : StoredBook) (full : Bool) → book.floor ≤ epoch → is_spent epoch tag book ≡ false → full ≡ is_full limit epoch least book
    → (if full then Some ShardFull else None) ≡ claim_refusal limit epoch tag least book
refused_full limit epoch tag least book full low unspent is = rw (le-ltb epoch book.floor low, unspent) (ap (λ (test : Bool). if test then Some ShardFull else None) is)

-- ---- how many different tags there are

pub logs_summed : (logs : List TagLogState) → sum_by (λ (log : TagLogState). distinct_count log.tags) logs ≡ sum_by (λ (log : EpochLog). distinct_count log.tags) (map epoch_log logs)
logs_summed [] = refl
logs_summed (log ∷ logs) =
    omega (
      arith,
      logs_summed logs,
      sum_by-cons (λ (l : TagLogState). distinct_count l.tags) log logs,
      sum_by-cons (λ (l : EpochLog). distinct_count l.tags) (epoch_log log) (map epoch_log logs),
    )
