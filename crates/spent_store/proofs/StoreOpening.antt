-- The parts of a store on its rack: the areas of its logs, and when they stand there together.
use Rattle.std.proofs.Common.{◌≡◌, ℕ, ◌%◌, ◌<◌, ◌==◌, true, List, [], ◌∷◌, length, map, max, Ok, inl, inr, refl, sym, ◌∙◌, ap, subst, arith}
use Rattle.std.specs.List.{AllByRecursion, list_any}
use Rattle.std.proofs.lemmas.Bool.{cases_lt, eqb-true, or_cases}
use Rattle.mix_base.specs.declared.shards.Shape.{Shape}
use Rattle.replay_disk.specs.Disk.{Area, Areas, RackState, IsAtRest, area_at, contents_of}
use Rattle.replay_disk.proofs.Laws.{rests_same}
use Rattle.gate_log.specs.Log.{LogState}
use Rattle.gate_log.specs.Log as gate
use Rattle.gate_log.specs.Records.{records, IsClosed}
use Rattle.spent_store.proofs.BookLaws.{log_bytes-one, log_bytes-two, book_parts, root_count}
use Rattle.spent_store.specs.Books.{EpochLog, StoredBook, area_of, log_in, log_bytes}
use Rattle.spent_store.specs.Changes.{made, with_made}
use Rattle.spent_store.specs.Kept.{AreNearLogs, HasTags}
use Rattle.spent_store.specs.Root.{AreNear, roots_in, begun_of}
use Rattle.spent_store.specs.Stores.{StoreState, Stands, book_in}
use Rattle.spent_store.specs.TagLogs.{TagLogState, RestsClosed, LogStands, epoch_log}
use Rattle.spent_store.specs.declared.root.RootRecord.{RootRecord}

-- ---- the areas of logs

-- the areas of logs have their tags
pub log_bytes_at : (areas : Areas) (epoch : ℕ) → (area_at (area_of epoch) areas).contents ≡ log_bytes areas.one.contents areas.two.contents epoch
log_bytes_at areas epoch =
    elim (cases_lt (epoch % 2) 1) [
      | inl even ↦
          let first : area_of epoch ≡ 1 = omega arith in
          ap (λ (area : ℕ). (area_at area areas).contents) first ∙ sym (log_bytes-one areas.one.contents areas.two.contents epoch first)
      | inr odd ↦
          let second : area_of epoch ≡ 2 = omega arith in
          ap (λ (area : ℕ). (area_at area areas).contents) second ∙ sym (log_bytes-two areas.one.contents areas.two.contents epoch second)
    ]

logs_have : (areas : Areas) (epochs : List ℕ) → AllByRecursion (HasTags areas) (map (log_in areas.one.contents areas.two.contents) epochs)
logs_have areas [] = tt
logs_have areas (epoch ∷ epochs) = (ap (λ (bytes : List ℕ). records 32 bytes) (log_bytes_at areas epoch), logs_have areas epochs)

pub tags_read : (shape : Shape) (limit : ℕ) (areas : Areas) (book : StoredBook) → book_in areas shape limit ≡ Ok book → AllByRecursion (HasTags areas) book.logs
tags_read shape limit areas book reads =
    let is = (book_parts areas.root.contents areas.one.contents areas.two.contents shape limit book reads).1 in
    subst (λ (b : StoredBook). AllByRecursion (HasTags areas) b.logs) is (logs_have areas (begun_of (roots_in areas.root.contents)))

-- ---- the root

pub with_made_count : (shape : Shape) (roots : List RootRecord) → length (with_made shape roots) ≡ max (length roots) 1
with_made_count shape [] = refl
with_made_count shape (root ∷ roots) = omega arith

pub made_some : (shape : Shape) (book : StoredBook) → 0 < length (made shape book).roots
made_some shape book = omega (arith, with_made_count shape book.roots)

-- ---- what stands

-- the area of an epoch among logs that stand
pub log_rests : (areas : Areas) (logs : List TagLogState) (epoch : ℕ) → AllByRecursion (λ (log : TagLogState). LogStands log areas) logs
    → list_any (λ other. other == epoch) (map (λ (log : EpochLog). log.epoch) (map epoch_log logs)) ≡ true → RestsClosed 32 (area_of epoch) areas
log_rests areas [] epoch stand there = absurd (cc)
log_rests areas (log ∷ logs) epoch stand there =
    elim (or_cases (log.epoch == epoch) _ there) [
      | inl here ↦ subst (λ (e : ℕ). RestsClosed 32 (area_of e) areas) (eqb-true log.epoch epoch here) stand.0.rest
      | inr later ↦ log_rests areas logs epoch stand.1 later
    ]

pub gate_rest : (size area : ℕ) (log : LogState) (state : RackState) → log.area ≡ area → log.size ≡ size → gate.Stands log state → RestsClosed size area state.areas
gate_rest size area log state is_area is_size stands =
    subst (λ (s : ℕ). RestsClosed s area state.areas) is_size (subst (λ (a : ℕ). RestsClosed log.size a state.areas) is_area (record { rest = stands.at_rest; closed = stands.closed }))

-- the root's log of a store that stands
pub root_stands : (store : StoreState) (log : LogState) (state : RackState) → log.area ≡ 0 → log.size ≡ 9 → log.count ≡ length store.book.roots → Stands store state.areas → gate.Stands log state
root_stands store log state is_area is_size count stands =
    let roots = root_count state.areas.root.contents state.areas.one.contents state.areas.two.contents store.shape store.limit store.book stands.reads in
    record {
      at_rest = subst (λ (a : ℕ). IsAtRest state.areas a) (sym is_area) stands.root.rest;
      count = subst (λ (a : ℕ). length (records log.size (contents_of a state)) ≡ log.count) (sym is_area)
          (subst (λ (n : ℕ). length (records n (contents_of 0 state)) ≡ log.count) (sym is_size) (sym roots ∙ sym count));
      closed = subst (λ (a : ℕ). IsClosed log.size (contents_of a state)) (sym is_area) (subst (λ (n : ℕ). IsClosed n (contents_of 0 state)) (sym is_size) stands.root.closed);
    }

pub rest_kept : (size area : ℕ) (old new : Areas) → area_at area new ≡ area_at area old → RestsClosed size area old → RestsClosed size area new
rest_kept size area old new same rests = record {
  rest = rests_same area old new same rests.rest;
  closed = subst (λ (a : Area). IsClosed size a.contents) (sym same) rests.closed;
}

pub store_stands : (store : StoreState) (logs : List TagLogState) (areas : Areas) → store.book.logs ≡ map epoch_log logs → RestsClosed 9 0 areas → AllByRecursion (λ (log : TagLogState). LogStands log areas) logs
    → book_in areas store.shape store.limit ≡ Ok store.book → 0 < length store.book.roots → Stands store areas
store_stands store logs areas are_logs root stand reads some = record {
  root = root;
  logs = λ epoch there. log_rests areas logs epoch stand (subst (λ (found : List EpochLog). list_any (λ other. other == epoch) (map (λ (log : EpochLog). log.epoch) found) ≡ true) are_logs there);
  reads = reads;
  made = some;
}

near_epochs : (logs : List TagLogState) → map (λ (log : EpochLog). log.epoch) (map epoch_log logs) ≡ map (λ (log : TagLogState). log.epoch) logs
near_epochs [] = refl
near_epochs (log ∷ logs) = ap (λ (rest : List ℕ). log.epoch ∷ rest) (near_epochs logs)

-- the epochs of a store's logs, from those of its book
pub near_logs : (floor : ℕ) (logs : List TagLogState) (known : List EpochLog) → map epoch_log logs ≡ known → AreNear floor (map (λ (log : EpochLog). log.epoch) known) → AreNearLogs floor logs
near_logs floor logs known are_logs near =
    subst (λ (epochs : List ℕ). AreNear floor epochs) (near_epochs logs) (subst (λ (found : List EpochLog). AreNear floor (map (λ (log : EpochLog). log.epoch) found)) (sym are_logs) near)

pub logs_near_again : (floor : ℕ) (logs : List TagLogState) → AreNearLogs floor logs → AreNear floor (map (λ (log : EpochLog). log.epoch) (map epoch_log logs))
logs_near_again floor logs near = subst (λ (epochs : List ℕ). AreNear floor epochs) (sym (near_epochs logs)) near
