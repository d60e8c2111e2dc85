use Rattle.std.proofs.Common.{◌≡◌, ◌*◌}
use Rattle.prim_std.proofs.KeyStream.{generator_at, XoredBelow}
use Rattle.prim_std.proofs.key_stream.chacha_xor.Given as goal

abbrev pub invariant-words : goal.invariant-words
invariant-words l = record {
  generator : l.generator ≡ generator_at l.key l.i;
  xored : XoredBelow l.key l.initial.buf l.buf (4 * l.i);
}
