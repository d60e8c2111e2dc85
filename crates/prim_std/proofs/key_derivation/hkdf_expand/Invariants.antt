use Rattle.std.proofs.Common.{◌≡◌, ◌*◌, ◌≤◌, take, length}
use Rattle.prim_std.specs.Primitives.{hkdf_block, hkdf_blocks}
use Rattle.prim_std.proofs.key_derivation.hkdf_expand.Given as goal

abbrev pub invariant-filling : goal.invariant-filling
invariant-filling l = record {
  within : l.held ≤ 32;
  previous : take l.held l.block ≡ hkdf_block l.prk l.info l.i;
  done : take (32 * l.i) l.out ≡ take (length l.out) (hkdf_blocks l.prk l.info l.i);
}
