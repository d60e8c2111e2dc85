-- The logs are as they were, and those so far have room.
use Rattle.std.proofs.Common.{◌≡◌, ℕ, ◌≤◌, Bool, true, false, map, take, vec_len, vec_capacity}
use Rattle.spent_store.specs.Kept.{AreOfStore}
use Rattle.spent_store.specs.TagLogs.{epoch_log}
use Rattle.spent_store.proofs.log_lists.reserve_logs.Given as goal

abbrev pub invariant-reserving : goal.invariant-reserving
invariant-reserving l = record {
  same : map epoch_log l.logs.items ≡ map epoch_log l.initial.logs.items;
  number : vec_len l.logs ≡ l.count;
  capacity : vec_capacity l.initial.logs ≤ vec_capacity l.logs;
  kept : (limit : ℕ) → (sound : Bool) → AreOfStore limit sound false l.initial.logs.items → AreOfStore limit sound false l.logs.items;
  ready : (limit : ℕ) → (sound : Bool) → AreOfStore limit sound false l.initial.logs.items → AreOfStore limit sound true (take l.i l.logs.items);
}
