use Rattle.std.proofs.Common.{ℕ, ◌<◌, Bool, true, false, List, length, refl, sym, ◌∙◌, ap, subst, arith, rules}
use Rattle.std.proofs.lemmas.List.{take_all}
use Rattle.spent_store.specs.Kept.{IsOfStore, AreOfStore}
use Rattle.spent_store.specs.TagLogs.{TagLogState, epoch_log}
use Rattle.spent_store.proofs.StoreLogs.{same_logs, all_set, all_at, all_taken, of_store_spare}
use Rattle.spent_store.proofs.log_lists.reserve_logs.Goals as goal

pub reserving-init : goal.reserving-init
reserving-init c = record { same = refl; number = search rules; capacity = omega arith; kept = λ limit sound all. all; ready = λ limit sound all. tt }

pub reserving-preserved : goal.reserving-preserved
reserving-preserved c =
    let before = c.reserving.invariant in
    let logs = c.reserving.logs.items in
    let within : c.reserving.i < length logs = search rules in
    let old = c.index_mut.result.now in
    let log = c.reserve.new.self in
    let at : (limit : ℕ) → (sound : Bool) → AreOfStore limit sound false c.args.logs.now.items → IsOfStore limit sound false old
    = λ limit sound all. subst (IsOfStore limit sound false) (sym c.index_mut.ensures.value) (all_at (IsOfStore limit sound false) logs c.reserving.i old within (before.kept limit sound all)) in
    record {
      same = same_logs logs c.reserving.i old log within c.index_mut.ensures.value (ap epoch_log c.reserve.ensures.same) ∙ before.same;
      number = before.number;
      capacity = before.capacity;
      kept = λ limit sound all. all_set (IsOfStore limit sound false) logs c.reserving.i log (before.kept limit sound all)
          (of_store_spare limit sound false old log c.reserve.ensures.same (at limit sound all) (λ never. absurd (cc)));
      ready = λ limit sound all. all_taken (IsOfStore limit sound true) logs c.reserving.i log (before.ready limit sound all)
          (of_store_spare limit sound true old log c.reserve.ensures.same (at limit sound all) (λ _. c.in_ok-reserve.ensures.ok));
    }

pub returns-in_err-reserve-clause-same : goal.returns-in_err-reserve-clause-same
returns-in_err-reserve-clause-same c =
    let within : c.reserving.i < length c.reserving.logs.items = search rules in
    same_logs c.reserving.logs.items c.reserving.i c.index_mut.result.now c.reserve.new.self within c.index_mut.ensures.value (ap epoch_log c.reserve.ensures.same) ∙ c.reserving.invariant.same

pub returns-in_err-reserve-clause-kept : goal.returns-in_err-reserve-clause-kept
returns-in_err-reserve-clause-kept c limit sound all =
    let logs = c.reserving.logs.items in
    let within : c.reserving.i < length logs = search rules in
    let kept = c.reserving.invariant.kept limit sound all in
    let old = subst (IsOfStore limit sound false) (sym c.index_mut.ensures.value) (all_at (IsOfStore limit sound false) logs c.reserving.i c.index_mut.result.now within kept) in
    all_set (IsOfStore limit sound false) logs c.reserving.i c.reserve.new.self kept
    (of_store_spare limit sound false c.index_mut.result.now c.reserve.new.self c.reserve.ensures.same old (λ never. absurd (cc)))

pub returns-clause-ready : goal.returns-clause-ready
returns-clause-ready c limit sound all =
    subst (λ (logs : List TagLogState). AreOfStore limit sound true logs)
    (take_all c.reserving.i c.reserving.logs.items (search rules)) (c.reserving.invariant.ready limit sound all)
