-- When a log stands on its rack: after it was read, closed, emptied, or a record was appended.
use Rattle.std.proofs.Common.{◌≡◌, ◌↔◌, ℕ, ◌+◌, ◌*◌, ◌<◌, ◌≤◌, true, false, List, [], ◌∷◌, ◌++◌, length, get_or, take, drop, refl, sym, ◌∙◌, ap, subst, arith, length-append, length-drop}
use Rattle.std.proofs.lemmas.List.{take_all, get_or-drop}
use Rattle.std.specs.List.{concat}
use Rattle.replay_disk.specs.Disk.{Area, RackState, IsAtRest, area_at, contents_of, settled}
use Rattle.replay_disk.proofs.Laws.{rests_settled, rests_same}
use Rattle.gate_log.specs.declared.scan.Front.{Front}
use Rattle.gate_log.specs.declared.scan.Gate.{Gate}
use Rattle.gate_log.specs.declared.scan.Gate.TheVariants.{Record, Closed, Open}
use Rattle.gate_log.specs.Log.{LogState, Stands, ReadState, WasRead, records_of}
use Rattle.gate_log.specs.Records.{records, end_place, with_records, emptied, IsClosed, ClosesEnd}
use Rattle.gate_log.specs.Faults.{IsOverfull}
use Rattle.gate_log.specs.Scanning.{IsFront}
use Rattle.gate_log.proofs.Appending.{records-written, closed-written, written_is, end_keeps, shut_same, closed-shut, closed-reset}
use Rattle.gate_log.proofs.Blocks.{take_min}
use Rattle.gate_log.proofs.Gates.{gate_record, gate_closed, gate_open, gate_unshut, drop_records}
use Rattle.gate_log.proofs.Moments.{contents_at_rest}

-- it depends on its own area alone
pub read_same : (read : ReadState) (old new : RackState) → area_at read.area new.areas ≡ area_at read.area old.areas → WasRead read old → WasRead read new
read_same read old new same was =
    let kept : contents_of read.area old ≡ contents_of read.area new = ap (λ (a : Area). a.contents) (sym same) in
    record {
      at_rest = rests_same read.area old.areas new.areas same was.at_rest;
      joined = subst (λ (xs : List ℕ). read.records ≡ concat (records read.size xs)) kept was.joined;
      count = subst (λ (xs : List ℕ). length (records read.size xs) ≡ read.count) kept was.count;
      closed = λ shut. subst (λ (xs : List ℕ). IsClosed read.size xs) kept (was.closed shut);
      unclosed = λ shut. subst (λ (xs : List ℕ). ¬ IsClosed read.size xs) kept (was.unclosed shut);
      few = λ shut. subst (λ (xs : List ℕ). length xs ≤ end_place read.size xs + read.size + 1) kept (was.few shut);
    }

-- the first records of an area and what stands behind them: whether these are all, and whether the end is closed
module _ (size limit : ℕ) (bytes : List ℕ) (front : Front) (is : IsFront size limit bytes front) where
  place : ℕ
  place = front.count * (size + 1)

  within : front.count ≤ length (records size bytes)
  within = let count = is.count in omega arith

  pub more_behind : front.gate ≡ Record → limit < length (records size bytes)
  more_behind gate =
      let next = gate_record size (drop (front.count * (size + 1)) bytes) (sym is.gate ∙ gate) in
      let left = ap length (drop_records size front.count bytes within ∙ next) in
      let count = is.count in
      omega (arith, length-drop front.count (records size bytes))

  pub overfull_front : front.gate ≡ Record → (at : ℕ) → at ≡ front.count * (size + 1) → IsOverfull size limit at bytes
  overfull_front gate at from =
      let more = more_behind gate in
      let count : front.count ≡ limit = let n = is.count in omega arith in
      record { more = more; place = from ∙ ap (λ (n : ℕ). n * (size + 1)) count ∙ omega arith }

  -- no record behind them: they are all
  module _ (none : records size (drop (front.count * (size + 1)) bytes) ≡ []) where
    pub all_count : length (records size bytes) ≡ front.count
    all_count =
        let left = ap length (drop_records size front.count bytes within ∙ none) in
        omega (arith, length-drop front.count (records size bytes), within)

    pub all_joined : front.records.items ≡ concat (records size bytes)
    all_joined = is.joined ∙ ap concat (take_all front.count (records size bytes) (omega (arith, all_count)))

    all_place : end_place size bytes ≡ front.count * (size + 1)
    all_place = ap (λ (n : ℕ). (size + 1) * n) all_count ∙ omega arith

    all_gate : get_or (drop (front.count * (size + 1)) bytes) 0 0 ≡ get_or bytes (end_place size bytes) 0
    all_gate =
        let start : front.count * (size + 1) + 0 ≡ end_place size bytes = omega (arith, all_place) in
        get_or-drop (front.count * (size + 1)) bytes 0 0 ∙ ap (λ (n : ℕ). get_or bytes n 0) start

  pub closed_front : front.gate ≡ Closed → (records size (drop (front.count * (size + 1)) bytes) ≡ []) × IsClosed size bytes
  closed_front shut =
      let gate = gate_closed size (drop (front.count * (size + 1)) bytes) (sym is.gate ∙ shut) in
      let some = gate.1 in (
        gate.0,
        record {
          there = omega (arith, all_place gate.0, length-drop (front.count * (size + 1)) bytes);
          shut = λ one. gate.2 (all_gate gate.0 ∙ one);
        },
      )

  pub open_front : front.gate ≡ Open → (records size (drop (front.count * (size + 1)) bytes) ≡ []) × (¬ IsClosed size bytes) × (length bytes ≤ end_place size bytes + size + 1)
  open_front unshut =
      let rest : List ℕ = drop (front.count * (size + 1)) bytes in
      let gate = gate_open size rest (sym is.gate ∙ unshut) in
      let few = gate.1 in (
        gate.0,
        (λ closed.
            let there = closed.there in
            let some : 0 < length rest = omega (arith, all_place gate.0, length-drop (front.count * (size + 1)) bytes) in
            closed.shut (sym (all_gate gate.0) ∙ gate_unshut size rest (sym is.gate ∙ unshut) some)),
        omega (arith, all_place gate.0, length-drop (front.count * (size + 1)) bytes),
      )

  pub front_records : concat (take limit (records size bytes)) ≡ front.records.items
  front_records = sym (is.joined ∙ ap (λ (n : ℕ). concat (take n (records size bytes))) is.count ∙ ap concat (take_min limit (records size bytes)))

  pub front_more : (front.gate ≡ Record) ↔ (limit < length (records size bytes))
  front_more = (more_behind, λ more. more_at front.gate refl more)
    where
      more_at : (gate : Gate) → front.gate ≡ gate → limit < length (records size bytes) → front.gate ≡ Record
      more_at Record at more = at
      more_at Closed at more = let all = all_count (closed_front at).0 in let count = is.count in absurd (omega arith)
      more_at Open at more = let all = all_count (open_front at).0 in let count = is.count in absurd (omega arith)

-- what was read, once the area is at rest
pub was_closed : (read : ReadState) (state : RackState) (limit : ℕ) (front : Front) → IsAtRest state.areas read.area → IsFront read.size limit (contents_of read.area state) front
    → read.records ≡ front.records.items → read.count ≡ front.count → read.closed ≡ true → front.gate ≡ Closed → WasRead read state
was_closed read state limit front rest is joined count shut gate =
    let bytes : List ℕ = contents_of read.area state in
    let end = closed_front read.size limit bytes front is gate in
    record {
      at_rest = rest;
      joined = joined ∙ all_joined read.size limit bytes front is end.0;
      count = all_count read.size limit bytes front is end.0 ∙ sym count;
      closed = λ _. end.1;
      unclosed = λ other. let wrong : true ≡ false = sym shut ∙ other in cc;
      few = λ other. let wrong : true ≡ false = sym shut ∙ other in cc;
    }

pub was_open : (read : ReadState) (state : RackState) (limit : ℕ) (front : Front) → IsAtRest state.areas read.area → IsFront read.size limit (contents_of read.area state) front
    → read.records ≡ front.records.items → read.count ≡ front.count → read.closed ≡ false → front.gate ≡ Open → WasRead read state
was_open read state limit front rest is joined count unshut gate =
    let bytes : List ℕ = contents_of read.area state in
    let end = open_front read.size limit bytes front is gate in
    record {
      at_rest = rest;
      joined = joined ∙ all_joined read.size limit bytes front is end.0;
      count = all_count read.size limit bytes front is end.0 ∙ sym count;
      closed = λ other. let wrong : false ≡ true = sym unshut ∙ other in cc;
      unclosed = λ _. end.1;
      few = λ _. end.2;
    }

-- a log whose area is settled with bytes that have its records and a closed end
pub stands_settled : (log : LogState) (state : RackState) (bytes : List ℕ) → area_at log.area state.areas ≡ settled bytes → length (records log.size bytes) ≡ log.count → IsClosed log.size bytes → Stands log state
stands_settled log state bytes done count closed =
    let is : bytes ≡ contents_of log.area state = sym (contents_at_rest log.area state bytes done) in
    record {
      at_rest = rests_settled state.areas log.area bytes done;
      count = subst (λ (xs : List ℕ). length (records log.size xs) ≡ log.count) is count;
      closed = subst (λ (xs : List ℕ). IsClosed log.size xs) is closed;
    }

-- a record more
module _ (size : ℕ) (old bytes : List ℕ) (count : length bytes ≡ size) (closed : IsClosed size old) where
  pub appended_records : records size (with_records size (bytes ∷ []) old) ≡ records size old ++ bytes ∷ []
  appended_records = ap (λ (xs : List ℕ). records size xs) (sym (written_is size old bytes count closed)) ∙ records-written size old bytes count closed

  pub appended_closed : IsClosed size (with_records size (bytes ∷ []) old)
  appended_closed = subst (λ (xs : List ℕ). IsClosed size xs) (written_is size old bytes count closed) (closed-written size old bytes count closed)

  pub appended_count : length (records size (with_records size (bytes ∷ []) old)) ≡ length (records size old) + 1
  appended_count = ap length appended_records ∙ length-append (records size old) (bytes ∷ [])

module _ (log : LogState) (bytes : List ℕ) (first last : RackState) (count : length bytes ≡ log.size) (stands : Stands log first)
    (done : area_at log.area last.areas ≡ settled (with_records log.size (bytes ∷ []) (contents_of log.area first))) where
  pub log_contents : contents_of log.area last ≡ with_records log.size (bytes ∷ []) (contents_of log.area first)
  log_contents = contents_at_rest log.area last (with_records log.size (bytes ∷ []) (contents_of log.area first)) done

  pub log_appended : records_of log last ≡ records_of log first ++ bytes ∷ []
  log_appended = ap (λ (xs : List ℕ). records log.size xs) log_contents ∙ appended_records log.size (contents_of log.area first) bytes count stands.closed

  log_stands_more : Stands (record log { count = log.count + 1 }) last
  log_stands_more =
      stands_settled (record log { count = log.count + 1 }) last (with_records log.size (bytes ∷ []) (contents_of log.area first)) done
      (appended_count log.size (contents_of log.area first) bytes count stands.closed ∙ ap (λ (n : ℕ). n + 1) stands.count)
      (appended_closed log.size (contents_of log.area first) bytes count stands.closed)

  pub log_stands : (new : LogState) → new ≡ record log { count = log.count + 1 } → Stands new last
  log_stands new is = subst (λ (l : LogState). Stands l last) (sym is) log_stands_more

-- an end that was closed
module _ (size : ℕ) (old : List ℕ) (few : length old ≤ end_place size old + size + 1) where
  pub shut_records : records size (with_records size [] old) ≡ records size old
  shut_records = end_keeps size old few (with_records size [] old) (shut_same size old few)

  pub shut_closed : IsClosed size (with_records size [] old)
  shut_closed = closed-shut size old few

-- no record
pub emptied_closed : (size : ℕ) (old : List ℕ) → IsClosed size (emptied old)
emptied_closed size old = closed-reset size (drop 1 old)

-- a log on an area that was emptied
pub emptied_stands : (log : LogState) (first last : RackState) → area_at log.area last.areas ≡ settled (emptied (contents_of log.area first)) → log.count ≡ 0 → Stands log last
emptied_stands log first last done none = stands_settled log last (emptied (contents_of log.area first)) done (sym none) (emptied_closed log.size (contents_of log.area first))

-- closing an end where no closed gate stands: `first` before, `last` after
module _ (area size : ℕ) (first last : RackState) (few : length (contents_of area first) ≤ end_place size (contents_of area first) + size + 1)
    (done : area_at area last.areas ≡ settled (with_records size [] (contents_of area first))) where
  abbrev old : List ℕ
  old = contents_of area first

  shut_bytes : contents_of area last ≡ with_records size [] old
  shut_bytes = contents_at_rest area last (with_records size [] old) done

  pub shut_rests : IsAtRest last.areas area
  shut_rests = rests_settled last.areas area (with_records size [] old) done

  pub shut_kept : records size (contents_of area last) ≡ records size old
  shut_kept = ap (λ (xs : List ℕ). records size xs) shut_bytes ∙ shut_records size old few

  pub shut_end : IsClosed size (contents_of area last)
  shut_end = subst (λ (xs : List ℕ). IsClosed size xs) (sym shut_bytes) (shut_closed size old few)

  pub shut_closes : ¬ IsClosed size old → ClosesEnd size old (contents_of area last)
  shut_closes unshut = record { closed = λ shut. absurd (unshut shut); unclosed = λ _. shut_bytes }

-- closing an end where a closed gate stands
pub closes_nothing : (size : ℕ) (bytes : List ℕ) → IsClosed size bytes → ClosesEnd size bytes bytes
closes_nothing size bytes shut = record { closed = λ _. refl; unclosed = λ unshut. absurd (unshut shut) }

-- a log whose end is closed, with the records that were read
pub stands_read : (read : ReadState) (log : LogState) (first last : RackState) → WasRead read first
    → log ≡ record { area = read.area; size = read.size; limit = read.limit; count = read.count; sound = true }
    → IsAtRest last.areas read.area → records read.size (contents_of read.area last) ≡ records read.size (contents_of read.area first) → IsClosed read.size (contents_of read.area last) → Stands log last
stands_read read log first last was is rest kept end =
    subst (λ (l : LogState). Stands l last) (sym is) (record { at_rest = rest; count = ap length kept ∙ was.count; closed = end })
