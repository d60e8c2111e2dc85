use Rattle.std.proofs.Common.{arith, List, sym, ◌∙◌}
use Rattle.mix_shard.specs.Shards.{IsEntry}
use Rattle.mix_shard.specs.declared.entries.Entry.TheVariants.{Done}
use Rattle.mix_shard.specs.declared.entries.Told.{Told}
use Rattle.node_actors.proofs.Fating.{ends_on}
use Rattle.node_actors.proofs.Moments.{ended_moves}
use Rattle.node_actors.proofs.Seating.{acts_same, ending_claims, nothing_more, same_locks}
use Rattle.node_actors.proofs.actors.dealing.end_all.Goals as goal

pub end-requires-clause-shard : goal.end-requires-clause-shard
end-requires-clause-shard g c = let many = c.loop-shard.invariant.many in omega arith

pub end-requires-clause-open : goal.end-requires-clause-open
end-requires-clause-open g c = λ pass is. c.loop-shard.invariant.not_ended c.loop-shard.shard pass (omega arith) is

pub loop-shard-preserved : goal.loop-shard-preserved
loop-shard-preserved g c =
    let before = c.loop-shard.invariant in
    let first = c.args.seat.now in
    let seat = c.loop-shard.seat in
    let new = c.end.new.self in
    let Own : List Told → Type 0 = IsEntry (Done seat.caller) in
    record {
      nothing = nothing_more first seat new c.loop-shard.shard Own (λ own h. ending_claims seat.caller own h) before.nothing c.end.ensures;
      many = before.many ∙ sym (same_locks seat new (acts_same c.loop-shard.shard Own seat new c.end.ensures));
      moves = ended_moves c.loop-shard.shard seat new c.end.ensures before.moves;
      not_ended = ends_on seat new c.loop-shard.shard Own c.end.ensures before.not_ended;
    }
