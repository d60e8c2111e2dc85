use Rattle.std.proofs.Common.{◌≡◌, map, length, sym, ap, ◌∙◌, arith}
use Rattle.mix_shard.proofs.Keeping.{keeps_begun}
use Rattle.mix_shard.proofs.Rooms.{all_owed}
use Rattle.mix_shard.proofs.shard.Shard.new.Goals as goal

pub invariant_of-result : goal.invariant_of-result
invariant_of-result g c =
    let faults : (g.R.Rack.state c.of-2.result.value).faults ≡ (g.R.Rack.state c.args.rack).faults = ap (λ r. (g.R.Rack.state r).faults) c.of-2.ensures in
    let owed = all_owed c.in-Ok-nobody_done.done.items c.args.callers c.in-Ok-nobody_done.ensures in
    let none : length c.new.result.items ≡ 0 = ap (λ q. length q.items) c.new.ensures in (
      keeps_begun g.R.Rack.tells g.S.Suite.meaning _ (g.R.Rack.state c.args.rack) _ _ c.new-2.result.items c.new-3.result.items c.new.result.items c.in-Ok-nobody_done.done.items 0
          (record { shape = c.requires.shape; some = c.requires.some; most = c.requires.limit })
          (ap g.R.Rack.state c.of.ensures) (omega (arith, faults)) c.new-2.ensures c.new-3.ensures (ap (λ q. q.items) c.new.ensures) c.in-Ok-nobody_done.ensures,
      c.in-Ok.ensures.items ∙ ap (map _) (sym c.new-2.ensures),
      omega (arith, owed, none, c.in-Ok.ensures.len, c.in-Ok.ensures.capacity),
      omega (arith, c.in-Ok.ensures.capacity),
    )

pub returns-clause-kept : goal.returns-clause-kept
returns-clause-kept g c =
    let kept = (invariant_of-result g c).0.kept in
    record { tale = kept.tale; reads = kept.reads; covers = kept.covers; failures = kept.failures; no_fewer = kept.no_fewer; since_made = kept.since_made }
