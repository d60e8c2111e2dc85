use Rattle.std.proofs.Common.{sym, subst, arith}
use Rattle.mix_shard.specs.Kept.{AreEvenDone}
use Rattle.mix_shard.proofs.Draining.{all_done, each_done}
use Rattle.mix_shard.proofs.shard.Shard.is_drained.Goals as goal

pub returns-then-is_empty : goal.returns-then-is_empty
returns-then-is_empty g c = rw (← c.self.view_is) (
  (λ over. record {
    done = λ caller within even_number. each_done c.self.inside.done.items caller
        (subst (AreEvenDone 0) c.deref.ensures.value (c.are_done.ensures.0 over))
        (omega (arith, within, c.self.invariant.0.callers)) even_number;
    empty = c.is_empty.ensures.0 c.if-is_empty.true;
  }),
  (λ drained. c.are_done.ensures.1 (subst (AreEvenDone 0) (sym c.deref.ensures.value)
      (all_done c.self.inside.done.items (λ place within even_number. drained.done place (omega (arith, within, c.self.invariant.0.callers)) even_number)))),
)
