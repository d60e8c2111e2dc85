use Rattle.std.proofs.Common.{◌≡◌, ◌++◌, ◌+◌, ◌≤◌, All, map, reverse, vec_len, vec_capacity}
use Rattle.node_run.specs.Openings.{HasAllPasses, tale_behind, tale_of}
use Rattle.node_run.proofs.life.locking.unlock_all.Given as goal

abbrev pub invariant-loop-one : goal.invariant-loop-one
invariant-loop-one g l = record {
  are : map (λ one. tale_behind one.lock) l.fn.made.items ++ map tale_of (reverse l.fn.rest.items)
      ≡ map (λ one. tale_behind one.lock) l.made.items ++ map tale_of (reverse l.rest.items);
  made : All HasAllPasses l.made.items;
  fit : vec_len l.made + vec_len l.rest ≤ vec_capacity l.rest;
}

abbrev pub decreases-loop-one : goal.decreases-loop-one
decreases-loop-one g l = vec_len l.made
