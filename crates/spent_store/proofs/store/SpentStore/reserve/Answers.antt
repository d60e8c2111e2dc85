use Rattle.std.proofs.Common.{Bool, arith, sym, subst, map}
use Rattle.spent_store.specs.Kept.{AreOfStore}
use Rattle.spent_store.specs.TagLogs.{epoch_log}
use Rattle.spent_store.proofs.StoreOpening.{near_logs, logs_near_again}
use Rattle.spent_store.proofs.store.SpentStore.reserve.Goals as goal

pub invariant_of-self : goal.invariant_of-self
invariant_of-self c =
    let old = c.self.inside in
    let kept = c.self.invariant in
    let before = subst (λ (ready : Bool). AreOfStore old.limit old.sound ready old.logs.items) c.if-self.false kept.3 in (
      kept.0,
      kept.1,
      near_logs old.floor c.reserve_logs.new.logs.items (map epoch_log old.logs.items) c.reserve_logs.ensures.same (logs_near_again old.floor old.logs.items kept.2),
      subst (λ (ready : Bool). AreOfStore old.limit old.sound ready c.reserve_logs.new.logs.items) (sym c.if-self.false) (c.reserve_logs.ensures.kept old.limit old.sound before),
      omega (arith, kept.4, c.reserve_logs.ensures.capacity),
      λ ready. absurd (cc),
    )

pub invariant_of-self-2 : goal.invariant_of-self-2
invariant_of-self-2 c =
    let old = c.self.inside in
    let kept = c.self.invariant in
    let before = subst (λ (ready : Bool). AreOfStore old.limit old.sound ready old.logs.items) c.if-self.false kept.3 in (
      kept.0,
      kept.1,
      near_logs old.floor c.reserve_logs.new.logs.items (map epoch_log old.logs.items) c.reserve_logs.ensures.same (logs_near_again old.floor old.logs.items kept.2),
      c.in_ok-reserve_logs.ensures.ready old.limit old.sound before,
      omega (arith, kept.4, c.reserve_logs.ensures.capacity),
      λ _. (c.in_ok-with_capacity.ensures.items, omega (arith, c.in_ok-with_capacity.ensures.capacity)),
    )
