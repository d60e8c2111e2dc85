use Rattle.std.proofs.Common.{◌+◌, ◌-◌, sym, ◌∙◌, arith}
use Rattle.ntru_code.proofs.Digits.{digit_more, digit_last, digit_first}
use Rattle.ntru_code.proofs.packing.digit.Goals as goal

pub loop-i-preserved : goal.loop-i-preserved
loop-i-preserved c = sym (digit_more c.args.base (c.args.last - c.loop-i.i) (c.args.place - c.loop-i.i) (c.args.last - (c.loop-i.i + 1)) (c.args.place - (c.loop-i.i + 1)) c.loop-i.rest (omega arith) (omega arith)) ∙ c.loop-i.invariant

pub returns-then-place-last : goal.returns-then-place-last
returns-then-place-last c = sym (digit_last c.args.base (c.args.last - c.loop-i.i) (c.args.place - c.loop-i.i) c.loop-i.rest (omega arith)) ∙ c.loop-i.invariant

pub returns-else-place-last : goal.returns-else-place-last
returns-else-place-last c = sym (digit_first c.args.base (c.args.last - c.loop-i.i) (c.args.place - c.loop-i.i) c.loop-i.rest (omega arith) (omega arith)) ∙ c.loop-i.invariant
