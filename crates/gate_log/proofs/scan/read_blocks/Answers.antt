use Rattle.std.proofs.Common.{◌≡◌, ℕ, ◌+◌, ◌*◌, List, length, take, refl, ◌∙◌, ap, arith}
use Rattle.std.specs.List.{concat}
use Rattle.replay_disk.specs.Disk.{RackState, contents_of}
use Rattle.replay_disk.proofs.Laws.{only_read_then}
use Rattle.gate_log.specs.Records.{records}
use Rattle.gate_log.proofs.scan.read_blocks.Goals as goal

moved : (found : List ℕ) (taken all : ℕ) (now first : List (List ℕ)) → found ≡ concat (take taken now) → taken ≡ all → now ≡ first → found ≡ concat (take all first)
moved found taken all now first is count same = is ∙ (λ i. concat (take (count i) (same i)))

pub loop-block-preserved : goal.loop-block-preserved
loop-block-preserved g c =
    let loop = c.loop-block in
    let s0 = g.R.Rack.state c.args.rack.now in
    let s1 = g.R.Rack.state loop.rack in
    let s2 = g.R.Rack.state c.read_block.new.rack in
    let same = ap (λ (s : RackState). records c.args.size (contents_of c.args.area s)) loop.invariant.same in
    let within = c.in_ok-taken.ensures.within in
    let taken : c.in_ok-taken.taken ≡ 128 = omega arith in
    let count : loop.block * 128 + c.in_ok-taken.taken ≡ (loop.block + 1) * 128 = omega (arith, taken) in
    record {
      within = omega (arith, within);
      there = λ t. let n = c.in_ok-taken.ensures.taken t in omega (arith, n, ap length same);
      found = λ t. moved c.read_block.new.found.items (loop.block * 128 + c.in_ok-taken.taken) ((loop.block + 1) * 128) _ _ (c.in_ok-taken.ensures.found t) count same;
      whole = omega (arith, c.in_ok-taken.ensures.whole, loop.invariant.whole, ap (λ (n : ℕ). c.args.size * n) taken);
      same = only_read_then s0 s1 s2 loop.invariant.same c.read_block.ensures.same;
      owes =
          let before = loop.invariant.owes in
          let after = c.read_block.ensures.owes in
          record {
            rose = λ it. absurd it;
            no_fault = λ _. c.in_ok-taken.ensures.no_fault ∙ before.no_fault (λ it. it);
            no_fewer = omega (arith, before.no_fewer, after.no_fewer);
            calls = omega (arith, before.calls, after.calls);
            arms = after.arms ∙ before.arms;
            crashes = after.crashes ∙ before.crashes;
          };
    }

pub returns-then-taken-lt128-clause-count : goal.returns-then-taken-lt128-clause-count
returns-then-taken-lt128-clause-count g c t =
    let same = ap (λ (s : RackState). length (records c.args.size (contents_of c.args.area s))) c.loop-block.invariant.same in
    let n = c.in_ok-taken.ensures.taken t in
    omega (arith, n, same)

pub returns-then-taken-lt128-clause-found : goal.returns-then-taken-lt128-clause-found
returns-then-taken-lt128-clause-found g c t =
    let same = ap (λ (s : RackState). records c.args.size (contents_of c.args.area s)) c.loop-block.invariant.same in
    moved c.read_block.new.found.items _ _ _ _ (c.in_ok-taken.ensures.found t) refl same
