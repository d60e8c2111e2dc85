use Rattle.std.proofs.Common.{◌≡◌, ◌++◌, take, drop}
use Rattle.mix_base.specs.ByteLists.{xor}
use Rattle.mix_base.proofs.byte_lists.xor_into.Given as goal

-- what is done and the xor of what is left are the whole xor
abbrev pub invariant-loop-i : goal.invariant-loop-i
invariant-loop-i l = take l.i l.target ++ xor (drop l.i l.target) (drop l.i l.other) ≡ xor l.initial.target l.other
