use Rattle.std.proofs.Common.{List, length, ap, ◌∙◌, arith}
use Rattle.std.proofs.lemmas.List.FromFn.{length-map-range_with_len}
use Rattle.mix_shard.specs.Entries.{caller_of}
use Rattle.mix_shard.specs.declared.entries.Told.{Told}
use Rattle.turn_lock.specs.Seen.{Caller, new_pass}
use Rattle.turn_lock.proofs.Rounds.{all_own, all_rest, every}
use Rattle.node_run.proofs.Unlocking.{new_idle, same_story}
use Rattle.node_run.proofs.life.locking.unlock.Goals as goal

pub close-requires-clause-own : goal.close-requires-clause-own
close-requires-clause-own g c =
    all_own c.args.one.lock 0 c.args.one.passes.items (new_idle c.args.one.lock c.args.one.passes.items c.requires)

pub close-requires-clause-rest : goal.close-requires-clause-rest
close-requires-clause-rest g c =
    all_rest c.args.one.lock 0 c.args.one.passes.items (new_idle c.args.one.lock c.args.one.passes.items c.requires)

pub close-requires-clause-every : goal.close-requires-clause-every
close-requires-clause-every g c = λ number low.
    let lock = c.args.one.lock in
    let count = ap (λ (ps : List (Caller Told)). length ps) c.requires ∙ length-map-range_with_len (new_pass lock) 0 lock.callers in
    every lock 0 c.args.one.passes.items (new_idle lock c.args.one.passes.items c.requires) number (omega arith) (omega arith)

pub returns : goal.returns
returns g c =
    let ensures = c.close.ensures in
    let story = same_story c.args.one.lock (λ (told : Told). caller_of told.entry) c.args.one.passes.items c.close.result.told c.requires ensures.begins ensures.others ensures.made in
    λ i. (ensures.origin i, story i)
