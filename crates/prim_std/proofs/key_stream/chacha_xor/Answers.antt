use Rattle.std.proofs.Common.{◌≡◌, ◌+◌, ◌-◌, ◌*◌, ◌/◌, ◌%◌, ◌∙◌, ap, sym, ℕ, length, take, refl, arith, w32, rules}
use Rattle.std.specs.Int.{to_le_bytes}
use Rattle.std.proofs.lemmas.List.{take_all, places}
use Rattle.std.proofs.lemmas.Slice.{drop-put_mid}
use borrow.Rule.Slice.PartMut.{put_mid}
use Rattle.mix_base.specs.ByteLists.{xor_stream}
use Rattle.prim_std.specs.Primitives.{chacha_word, chacha_byte}
use Rattle.prim_std.proofs.KeyStream.{next_word-value, next_word-rest, take-xored, drop-on, XoredBelow}
use Rattle.prim_std.proofs.key_stream.chacha_xor.Goals as goal

pub words-preserved : goal.words-preserved
words-preserved c =
    let i = c.words.i in
    let key = c.args.key.now in
    let old = c.args.buf.now in
    let word : c.next_word.result ≡ chacha_word key i =
    next_word-value key i _ _ _ c.words.invariant.generator c.next_word.ensures (omega arith) in
    let width : 4 * i + 4 - 4 * i ≡ 4 = omega arith in
    let bytes : c.to_le_bytes-word.result ≡ take 4 (to_le_bytes w32 (chacha_word key i)) =
    c.to_le_bytes-word.ensures ∙ rw word refl in
    record {
      generator = next_word-rest key i _ _ _ c.words.invariant.generator c.next_word.ensures (omega arith);
      xored = record {
        done = rw width (take-xored key old c.words.buf c.xor_word.new.bytes c.to_le_bytes-word.result i (4 * i) 4 (4 * (i + 1))
            c.words.invariant.xored refl (omega arith) (omega arith) (omega arith) (omega arith) bytes
            (rw width at c.xor_word.ensures) (omega arith));
        left = rw width (drop-put_mid (4 * i) 4 c.words.buf c.xor_word.new.bytes (4 * (i + 1)) (omega arith) (omega arith) (omega arith)
            ∙ drop-on c.words.buf old (4 * i) 4 (4 * (i + 1)) c.words.invariant.xored.left (omega arith));
      };
    }

pub returns-then-over-gt0 : goal.returns-then-over-gt0
returns-then-over-gt0 c =
    let whole = length c.args.buf.now / 4 in
    let key = c.args.key.now in
    let old = c.args.buf.now in
    let buf = c.words.buf in
    let next = c.next_word-then-over-gt0 in
    let drawn = c.to_le_bytes-word-then-over-gt0 in
    let size = length buf - 4 * whole in
    let at : c.words.i ≡ whole = omega arith in
    let same : length buf ≡ length old = omega arith in
    let over : length buf % 4 ≡ size = omega arith in
    let word : next.result ≡ chacha_word key whole =
    rw at at (next_word-value key c.words.i _ _ _ c.words.invariant.generator next.ensures (omega arith)) in
    let bytes : take (length buf % 4) drawn.result ≡ take size (to_le_bytes w32 (chacha_word key whole)) =
    ap (λ (k : ℕ). take k drawn.result) over ∙ ap (take size) (drawn.ensures ∙ ap (to_le_bytes w32) word) in
    let below : XoredBelow key old buf (4 * whole) = rw at at c.words.invariant.xored in
    let xored : take (length old) (put_mid (4 * whole) size buf c.xor_into.new.target) ≡ xor_stream (chacha_byte key) 0 (take (length old) old) =
    take-xored key old buf c.xor_into.new.target (take (length buf % 4) drawn.result) whole (4 * whole) size (length old)
    below refl same (omega arith) (omega arith) (omega arith) bytes c.xor_into.ensures (omega arith) in
    let long : length (put_mid (4 * whole) size buf c.xor_into.new.target) ≡ length old = search (rules, places) in
    sym (take_all (length old) _ (omega arith)) ∙ xored ∙ ap (xor_stream (chacha_byte key) 0) (take_all (length old) old (omega arith))
