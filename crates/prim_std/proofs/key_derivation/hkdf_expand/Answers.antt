use Rattle.std.proofs.Common.{◌≡◌, ◌+◌, ◌*◌, ◌/◌, ◌∙◌, ap, sym, ℕ, List, ◌++◌, [], length, take, refl, arith}
use Rattle.std.proofs.lemmas.List.{take_all}
use Rattle.prim_std.specs.Primitives.{hkdf_block, hkdf_blocks, hkdf_expand}
use Rattle.prim_std.proofs.Expansion.{hkdf_block-next, hkdf_blocks-next, take-take_append}
use Rattle.prim_std.proofs.key_derivation.hkdf_expand.Goals as goal

pub filling-init : goal.filling-init
unfolding hkdf_block hkdf_blocks
filling-init c = record { within = omega arith; previous = refl; done = sym (take_all (length c.args.out.now) [] (omega arith)) }

pub filling-preserved : goal.filling-preserved
filling-preserved c =
    let i = c.filling.i in
    let prk = c.args.prk.now in
    let info = c.args.info.now in
    let size = length c.filling.out in
    let block : c.next_block-block.result ≡ hkdf_block prk info (i + 1) =
    rw c.filling.invariant.previous at c.next_block-block.ensures ∙ sym (hkdf_block-next prk info i) in
    let end : 32 * (i + 1) ≡ 32 * i + 32 = omega arith in
    let same : length c.put.new.out ≡ size = omega arith in
    record {
      within = omega arith;
      previous = take_all 32 c.next_block-block.result (omega arith) ∙ block;
      done = ap (λ (k : ℕ). take k c.put.new.out) end
          ∙ c.put.ensures
          ∙ ap (λ (front : List ℕ). take size (front ++ c.next_block-block.result)) c.filling.invariant.done
          ∙ take-take_append size (hkdf_blocks prk info i) c.next_block-block.result
          ∙ ap (λ (last : List ℕ). take size (hkdf_blocks prk info i ++ last)) block
          ∙ ap (take size) (sym (hkdf_blocks-next prk info i))
          ∙ ap (λ (k : ℕ). take k (hkdf_blocks prk info (i + 1))) (sym same);
    }

pub returns : goal.returns
unfolding hkdf_expand
returns c =
    let count : c.filling.i ≡ (length c.args.out.now + 31) / 32 = omega (arith, c.div_ceil-count.ensures) in
    let same : length c.filling.out ≡ length c.args.out.now = omega arith in
    sym (take_all (32 * c.filling.i) c.filling.out (omega arith)) ∙ c.filling.invariant.done
    ∙ ap (λ (k : ℕ). take k (hkdf_blocks c.args.prk.now c.args.info.now c.filling.i)) same
    ∙ ap (λ (n : ℕ). take (length c.args.out.now) (hkdf_blocks c.args.prk.now c.args.info.now n)) count
