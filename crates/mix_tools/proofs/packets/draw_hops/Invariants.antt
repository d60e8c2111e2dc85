use Rattle.std.proofs.Common.{◌≡◌, ◌++◌, drop}
use Rattle.mix_tools.specs.Packets.{path_from}
use Rattle.mix_tools.proofs.packets.draw_hops.Given as goal

-- the hops so far, and those that the words to come give, are all
abbrev pub invariant-hops : goal.invariant-hops
invariant-hops g l = l.path.items ++ path_from (g.W.Words.to_come l.words) (drop l.hop-index l.hops) ≡ path_from (g.W.Words.to_come l.initial.words) l.hops
