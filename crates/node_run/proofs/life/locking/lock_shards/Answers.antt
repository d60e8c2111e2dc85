use Rattle.std.proofs.Common.{All, List, map, ap, sym, subst, ◌∙◌}
use Rattle.std.proofs.lemmas.List.Elements.{All-map}
use Rattle.std.proofs.lemmas.Simd.{map-map}
use Rattle.mix_shard.specs.declared.entries.Told.{Told}
use Rattle.turn_lock.specs.Seen.{Lock}
use Rattle.turn_lock.proofs.Lists.{all_map}
use Rattle.node_run.specs.Openings.{IsMade, IsQuiet, tale_behind}
use Rattle.node_run.proofs.life.locking.lock_shards.Goals as goal

pub returns-clause-tales : goal.returns-clause-tales
returns-clause-tales g c =
    ap (λ (locks : List (Lock Told)). map tale_behind locks) c.deal_all.ensures.locks
    ∙ (map-map tale_behind (λ one. one.lock) c.in_ok-made.made.items ∙ c.in_ok-made.ensures.tales)

pub returns-clause-quiet : goal.returns-clause-quiet
returns-clause-quiet g c = subst (All (IsQuiet c.args.callers)) (sym c.deal_all.ensures.locks)
    (All-map (IsQuiet c.args.callers) (λ one. one.lock) c.in_ok-made.made.items
    (all_map (IsMade c.args.callers) (λ one. IsQuiet c.args.callers one.lock) c.in_ok-made.made.items (λ one is. is.quiet) c.in_ok-made.ensures.made))
