-- The changes of a store that stands on a rack, call by call: what they leave at every moment, what a read gives after a
-- failure, and that the store stands then.
use Rattle.std.proofs.Common.{◌≡◌, ◌<◌, ◌≤◌, ◌+◌, ◌^◌, ℕ, true, false, List, [], ◌∷◌, ◌++◌, length, get_or, slice_index_or, map, Contains, Ok, sym, ◌∙◌, ap, subst, arith}
use Rattle.std.specs.List.{AllByRecursion}
use Rattle.replay_disk.specs.Disk.{RackState, ReadsAnImage, area_at, contents_of}
use Rattle.replay_disk.specs.Moments.{AtEachMoment}
use Rattle.replay_disk.proofs.Laws.{weaker}
use Rattle.gate_log.specs.Log.{EachImage, OthersStay, IsAppendOf}
use Rattle.gate_log.specs.Records.{records}
use Rattle.spent_store.specs.Books.{EpochLog, StoredBook, area_of, has_begun, is_used}
use Rattle.spent_store.specs.Changes.{raised, begun_with, added, claimed, claim_stages, retirement_stages}
use Rattle.spent_store.specs.Kept.{HasTags, Leaves, beginning_stages}
use Rattle.spent_store.specs.Root.{IsNear, spell_root}
use Rattle.spent_store.specs.Stores.{StoreState, Stands, as_read, book_in}
use Rattle.spent_store.specs.TagLogs.{TagLogState, RestsClosed, LogStands, epoch_log}
use Rattle.spent_store.specs.declared.root.RootRecord.TheVariants.{Begin, Floor}
use Rattle.spent_store.proofs.ClaimLaws.{begins, begun_before, pair_count}
use Rattle.spent_store.proofs.Leaving.{among_front, among_behind, through_front, through_behind, through_then}
use Rattle.spent_store.proofs.Stages.{raising, raising_read, starting, starting_read, beginning, beginning_read, adding_log, adding_log_read, started_stands, begun_stands, raised_stands, added_log_stands, log_stands_beside}
use Rattle.spent_store.proofs.StoreLogs.{all_mapped, count_at}
use Rattle.spent_store.proofs.StoreOpening.{tags_read}

-- ---- a floor rises

module _ (store : StoreState) (floor : ℕ) (epochs : List ℕ) (s0 s1 : RackState) (stands : Stands store s0.areas) (fits : length store.book.roots < store.limit) (small : floor < 2 ^ 64) (above : store.book.floor < floor)
    (moments : AtEachMoment (EachImage 0 (IsAppendOf 9 (spell_root (Floor floor) ∷ []) (contents_of 0 s0)) s0.areas) s0 s1) where
  pub floor_moments : AtEachMoment (Leaves store.shape store.limit (retirement_stages floor store.book) epochs s0.areas) s0 s1
  floor_moments =
      weaker (EachImage 0 (IsAppendOf 9 (spell_root (Floor floor) ∷ []) (contents_of 0 s0)) s0.areas) (Leaves store.shape store.limit (retirement_stages floor store.book) epochs s0.areas) s0 s1
      (λ now each. raising store s0.areas stands floor fits small above now each epochs) moments

  pub floor_read_then : ReadsAnImage s1.areas 0 → Contains (as_read (retirement_stages floor store.book)) (book_in s1.areas store.shape store.limit)
  floor_read_then image = raising_read store s0.areas stands floor fits small above s1.areas moments.now image

  pub floor_stands : RestsClosed 9 0 s1.areas → records 9 s1.areas.root.contents ≡ records 9 s0.areas.root.contents ++ spell_root (Floor floor) ∷ [] → Stands (record store { book = raised floor store.book }) s1.areas
  floor_stands rest more = raised_stands store s0.areas stands floor fits small above s1.areas moments.now.others rest more

-- ---- a tag is spent in an epoch that has begun

-- the log of an epoch stands at a place among these
pub record IsAt (epoch : ℕ) (logs : List TagLogState) (place : ℕ) (log : TagLogState) : Type 0 where
  pub within : place < length logs
  pub at : log ≡ get_or logs place log
  pub of_epoch : log.epoch ≡ epoch

pub found_at : (epoch : ℕ) (logs found : List TagLogState) (place : ℕ) (log : TagLogState) → found ≡ logs → place < length found → ((other : TagLogState) → (slice_index_or found place other).epoch ≡ epoch)
    → log ≡ get_or logs place log → IsAt epoch logs place log
found_at epoch logs found place log same within there at = record {
  within = subst (λ (some : List TagLogState). place < length some) same within;
  at = at;
  of_epoch = ap (λ (l : TagLogState). l.epoch) at ∙ subst (λ (some : List TagLogState). (get_or some place log).epoch ≡ epoch) same (there log);
}

module _ (store : StoreState) (epoch : ℕ) (logs : List TagLogState) (place : ℕ) (log : TagLogState) (here : IsAt epoch logs place log) (are_logs : map epoch_log logs ≡ store.book.logs) where
  pub log_fits : (number : ℕ) → pair_count epoch store.book.logs + number ≤ store.limit → length log.tags + number ≤ store.limit
  log_fits number room =
      let counted : length log.tags ≤ pair_count epoch store.book.logs
      = subst (λ (some : List EpochLog). length log.tags ≤ pair_count epoch some) are_logs (count_at epoch logs place log here.within here.at here.of_epoch) in
      omega (arith, counted, room)

  module _ (s0 : RackState) (stands : Stands store s0.areas) (there : has_begun epoch store.book ≡ true) where
    has_log_begun : has_begun log.epoch store.book ≡ true
    has_log_begun = subst (λ (e : ℕ). has_begun e store.book ≡ true) (sym here.of_epoch) there

    pub log_stands : LogStands log s0.areas
    log_stands =
        let tags = subst (λ (some : List EpochLog). AllByRecursion (HasTags s0.areas) some) (sym are_logs) (tags_read store.shape store.limit s0.areas store.book stands.reads) in
        record { rest = stands.logs log.epoch has_log_begun; read = all_mapped (HasTags s0.areas) logs place log here.within here.at tags }

    module _ (tags : List (List ℕ)) (room : pair_count epoch store.book.logs + length tags ≤ store.limit) (s1 : RackState)
        (moments : AtEachMoment (EachImage (area_of log.epoch) (IsAppendOf 32 tags (contents_of (area_of log.epoch) s0)) s0.areas) s0 s1) where
      pub tags_moments : (epochs : List ℕ) → is_used (area_of epoch) epochs ≡ true → AtEachMoment (Leaves store.shape store.limit (store.book ∷ added epoch tags store.book ∷ []) epochs s0.areas) s0 s1
      tags_moments epochs used =
          subst (λ (e : ℕ). AtEachMoment (Leaves store.shape store.limit (store.book ∷ added e tags store.book ∷ []) epochs s0.areas) s0 s1) here.of_epoch
          (weaker (EachImage (area_of log.epoch) (IsAppendOf 32 tags (contents_of (area_of log.epoch) s0)) s0.areas)
          (Leaves store.shape store.limit (store.book ∷ added log.epoch tags store.book ∷ []) epochs s0.areas) s0 s1
          (adding_log store s0.areas stands log log_stands tags has_log_begun (log_fits (length tags) room) epochs (subst (λ (e : ℕ). is_used (area_of e) epochs ≡ true) (sym here.of_epoch) used)) moments)

      pub tags_read_then : ReadsAnImage s1.areas (area_of log.epoch) → Contains (as_read (store.book ∷ added epoch tags store.book ∷ [])) (book_in s1.areas store.shape store.limit)
      tags_read_then image =
          subst (λ (e : ℕ). Contains (as_read (store.book ∷ added e tags store.book ∷ [])) (book_in s1.areas store.shape store.limit)) here.of_epoch
          (adding_log_read store s0.areas stands log log_stands tags has_log_begun (log_fits (length tags) room) s1.areas moments.now image)

      pub tags_stand : (longer : TagLogState) → LogStands longer s1.areas → epoch_log longer ≡ record { epoch = log.epoch; tags = log.tags ++ tags } → Stands (record store { book = added epoch tags store.book }) s1.areas
      tags_stand longer stood is =
          subst (λ (e : ℕ). Stands (record store { book = added e tags store.book }) s1.areas) here.of_epoch
          (added_log_stands store s0.areas stands log log_stands tags has_log_begun (log_fits (length tags) room) longer s1.areas moments.now.others stood is)

-- ---- an epoch begins

-- at the start of its log the book stays, whatever stood in its area
module _ (store : StoreState) (epoch : ℕ) (s0 s1 : RackState) (stands : Stands store s0.areas) (near : IsNear store.book.floor epoch) (new : has_begun epoch store.book ≡ false)
    (moments : AtEachMoment (OthersStay (area_of epoch) s0.areas) s0 s1) where
  pub start_moments : (epochs : List ℕ) → is_used (area_of epoch) epochs ≡ true → AtEachMoment (Leaves store.shape store.limit (store.book ∷ []) epochs s0.areas) s0 s1
  start_moments epochs used =
      weaker (OthersStay (area_of epoch) s0.areas) (Leaves store.shape store.limit (store.book ∷ []) epochs s0.areas) s0 s1 (λ now others. starting store s0.areas stands epoch near new now others epochs used) moments

  pub start_read_then : book_in s1.areas store.shape store.limit ≡ Ok store.book
  start_read_then = starting_read store s0.areas stands epoch near new s1.areas moments.now

  pub start_stands : Stands store s1.areas
  start_stands = started_stands store s0.areas stands epoch near new s1.areas moments.now

-- then its log is empty; `s1` once it has begun in the root, and `s2` once it has its first tags
module _ (store : StoreState) (log : TagLogState) (tags : List (List ℕ)) (epochs : List ℕ) (used : is_used (area_of log.epoch) epochs ≡ true) (s0 s1 : RackState) (stands : Stands store s0.areas) (stood : LogStands log s0.areas)
    (empty : log.tags ≡ []) (fits : length store.book.roots < store.limit) (small : log.epoch < 2 ^ 64) (near : IsNear store.book.floor log.epoch) (new : has_begun log.epoch store.book ≡ false)
    (moments : AtEachMoment (EachImage 0 (IsAppendOf 9 (spell_root (Begin log.epoch) ∷ []) (contents_of 0 s0)) s0.areas) s0 s1) where
  abbrev Through : List StoredBook → RackState → RackState → Type 0
  Through stages first last = AtEachMoment (Leaves store.shape store.limit stages epochs first.areas) first last

  abbrev book : StoredBook
  book = begun_with log.epoch store.book

  abbrev last_stage : List StoredBook
  last_stage = added log.epoch tags book ∷ []

  none : records 32 (area_at (area_of log.epoch) s0.areas).contents ≡ []
  none = stood.read ∙ empty

  pub begin_moments : Through (beginning_stages log.epoch tags store.book) s0 s1
  begin_moments =
      through_front store.shape store.limit epochs (store.book ∷ book ∷ []) last_stage s0 s1
      (weaker (EachImage 0 (IsAppendOf 9 (spell_root (Begin log.epoch) ∷ []) (contents_of 0 s0)) s0.areas) (Leaves store.shape store.limit (store.book ∷ book ∷ []) epochs s0.areas) s0 s1
      (λ now each. beginning store s0.areas stands log.epoch fits small near new stood.rest none now each epochs) moments)

  pub begin_read_then : ReadsAnImage s1.areas 0 → Contains (as_read (beginning_stages log.epoch tags store.book)) (book_in s1.areas store.shape store.limit)
  begin_read_then image =
      among_front (store.book ∷ book ∷ []) last_stage (book_in s1.areas store.shape store.limit) (beginning_read store s0.areas stands log.epoch fits small near new stood.rest none s1.areas moments.now image)

  module _ (rest : RestsClosed 9 0 s1.areas) (more : records 9 s1.areas.root.contents ≡ records 9 s0.areas.root.contents ++ spell_root (Begin log.epoch) ∷ []) (few : length tags ≤ store.limit) (s2 : RackState)
      (then : AtEachMoment (EachImage (area_of log.epoch) (IsAppendOf 32 tags (contents_of (area_of log.epoch) s1)) s1.areas) s1 s2) where
    begun_there : Stands (record store { book = book }) s1.areas
    begun_there = begun_stands store s0.areas stands log.epoch fits small near new stood.rest none s1.areas moments.now.others rest more

    still : LogStands log s1.areas
    still = log_stands_beside log s0.areas s1.areas moments.now.others stood

    room : length log.tags + length tags ≤ store.limit
    room = omega (arith, few, ap (λ (some : List (List ℕ)). length some) empty)

    pub first_moments : Through (beginning_stages log.epoch tags store.book) s0 s2
    first_moments =
        let last : Through (book ∷ last_stage) s1 s2
        = weaker (EachImage (area_of log.epoch) (IsAppendOf 32 tags (contents_of (area_of log.epoch) s1)) s1.areas) (Leaves store.shape store.limit (book ∷ last_stage) epochs s1.areas) s1 s2
        (adding_log (record store { book = book }) s1.areas begun_there log still tags (begins log.epoch store.book) room epochs used) then in
        through_then store.shape store.limit epochs (beginning_stages log.epoch tags store.book) s0 s1 s2 begin_moments (through_behind store.shape store.limit epochs store.book (book ∷ last_stage) s1 s2 last)

    pub first_read_then : ReadsAnImage s2.areas (area_of log.epoch) → Contains (as_read (beginning_stages log.epoch tags store.book)) (book_in s2.areas store.shape store.limit)
    first_read_then image =
        among_behind store.book (book ∷ last_stage) (book_in s2.areas store.shape store.limit)
        (adding_log_read (record store { book = book }) s1.areas begun_there log still tags (begins log.epoch store.book) room s2.areas then.now image)

    pub first_stand : (longer : TagLogState) → LogStands longer s2.areas → epoch_log longer ≡ record { epoch = log.epoch; tags = log.tags ++ tags } → Stands (record store { book = added log.epoch tags book }) s2.areas
    first_stand longer stood_longer is =
        added_log_stands (record store { book = book }) s1.areas begun_there log still tags (begins log.epoch store.book) room longer s2.areas then.now.others stood_longer is

-- ---- a claim that isn't refused: `s1` once the floor is raised

module _ (store : StoreState) (epoch : ℕ) (tags : List (List ℕ)) (least : ℕ) (epochs : List ℕ) where
  abbrev risen : StoredBook
  risen = raised least store.book

  abbrev Claiming : List StoredBook → RackState → RackState → Type 0
  Claiming stages first last = AtEachMoment (Leaves store.shape store.limit stages epochs first.areas) first last

  abbrev behind : List StoredBook
  behind = begun_with epoch risen ∷ claimed epoch tags least store.book ∷ []

  pub claim_raised : (s0 s1 : RackState) → Claiming (retirement_stages least store.book) s0 s1 → Claiming (claim_stages epoch tags least store.book) s0 s1
  claim_raised s0 s1 moments = through_front store.shape store.limit epochs (store.book ∷ risen ∷ []) behind s0 s1 moments

  module _ (s0 s1 s2 : RackState) (raising : Claiming (retirement_stages least store.book) s0 s1) where
    -- in an epoch that has begun
    pub claim_added : has_begun epoch risen ≡ true → Claiming (risen ∷ added epoch tags risen ∷ []) s1 s2 → Claiming (claim_stages epoch tags least store.book) s0 s2
    claim_added there adding =
        let last = subst (λ (b : StoredBook). Claiming (b ∷ added epoch tags b ∷ []) s1 s2) (sym (begun_before epoch risen there)) adding in
        through_then store.shape store.limit epochs (claim_stages epoch tags least store.book) s0 s1 s2 (claim_raised s0 s1 raising)
        (through_behind store.shape store.limit epochs store.book (risen ∷ behind) s1 s2 (through_behind store.shape store.limit epochs risen behind s1 s2 last))

    -- at the start of the log of one that begins
    pub claim_started : Claiming (risen ∷ []) s1 s2 → Claiming (claim_stages epoch tags least store.book) s0 s2
    claim_started starting =
        through_then store.shape store.limit epochs (claim_stages epoch tags least store.book) s0 s1 s2 (claim_raised s0 s1 raising)
        (through_behind store.shape store.limit epochs store.book (risen ∷ behind) s1 s2 (through_front store.shape store.limit epochs (risen ∷ []) behind s1 s2 starting))

    -- and once it was started
    pub claim_begun : Claiming (risen ∷ []) s1 s2 → (s3 : RackState) → Claiming (beginning_stages epoch tags risen) s2 s3 → Claiming (claim_stages epoch tags least store.book) s0 s3
    claim_begun starting s3 begins_there =
        through_then store.shape store.limit epochs (claim_stages epoch tags least store.book) s0 s2 s3 (claim_started starting) (through_behind store.shape store.limit epochs store.book (beginning_stages epoch tags risen) s2 s3 begins_there)
