use Rattle.std.proofs.Common.{◌≡◌, ◌*◌, take}
use Rattle.mix_base.specs.WordStreams.{word_bytes}
use Rattle.mix_base.proofs.word_streams.write_words.Given as goal

abbrev pub invariant-writing : goal.invariant-writing
invariant-writing l = take (4 * l.i) l.out ≡ word_bytes (take l.i l.words)
