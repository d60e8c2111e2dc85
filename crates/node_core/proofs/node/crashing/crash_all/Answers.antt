use Rattle.std.proofs.Common.{get_or, arith}
use Rattle.std.proofs.lemmas.Option.{slice_get-get_or}
use Rattle.node_core.proofs.Crashing.{all_crashed, all_kept, one_more_crashed}
use Rattle.node_core.proofs.node.crashing.crash_all.Goals as goal

pub loop-place-preserved : goal.loop-place-preserved
loop-place-preserved g c =
    let before = get_or c.loop-place.shards c.loop-place.place c.index-shards-place.result in
    let there = slice_get-get_or c.loop-place.shards c.loop-place.place c.index-shards-place.result (omega (arith, c.loop-place-test.true, c.loop-place.invariant.count)) in
    one_more_crashed g.R.Rack.tells g.S.Suite.meaning c.args.pick c.loop-place.place c.args.shards.now c.loop-place.shards before c.crash.new.self
    c.loop-place.invariant there
    (record {
      rack = c.crash.ensures.rack;
      shard = c.crash.ensures.shard;
      book = c.crash.ensures.book;
      covered_stays = c.crash.ensures.covered_stays;
      charted = c.crash.ensures.charted;
    })
    c.crash.ensures.kept

pub returns-clause-crashed : goal.returns-clause-crashed
returns-clause-crashed g c =
    all_crashed g.R.Rack.tells g.S.Suite.meaning c.args.pick c.loop-place.place c.args.shards.now c.loop-place.shards
    (omega (arith, c.loop-place-test.false, c.loop-place.invariant.count)) c.loop-place.invariant

pub returns-clause-kept : goal.returns-clause-kept
returns-clause-kept g c =
    all_kept g.R.Rack.tells g.S.Suite.meaning c.args.pick c.loop-place.place c.args.shards.now c.loop-place.shards
    (omega (arith, c.loop-place-test.false, c.loop-place.invariant.count)) c.loop-place.invariant
