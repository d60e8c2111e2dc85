-- The floor and the begun epochs are those of the records read so far, and none of these is amiss.
use Rattle.std.proofs.Common.{◌≡◌, [], take, drop}
use Rattle.spent_store.specs.Root.{floor_of, begun_of, first_amiss}
use Rattle.spent_store.proofs.standing.read_standing.Given as goal

abbrev pub invariant-reading : goal.invariant-reading
invariant-reading l = record {
  floor : l.floor ≡ floor_of (take l.i l.roots);
  begun : l.begun.items ≡ begun_of (take l.i l.roots);
  none_amiss : first_amiss [] l.roots ≡ first_amiss (take l.i l.roots) (drop l.i l.roots);
}
