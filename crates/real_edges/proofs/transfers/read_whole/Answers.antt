use Rattle.std.proofs.Common.{rules, sym, subst, length, ◌-◌}
use Rattle.std.specs.Io.KnownBytes.{Consumes}
use Rattle.std.proofs.KnownBytes.{Consumes-trans}
use Rattle.std.proofs.lemmas.List.{places}
use Rattle.real_edges.proofs.Parts.{take-filled}
use Rattle.real_edges.proofs.transfers.read_whole.Goals as goal

pub parts-preserved : goal.parts-preserved
parts-preserved g c =
    let filled = c.parts.invariant in
    let joined = take-filled c.parts.filled (length c.parts.buf - c.parts.filled) c.in_ok-count.count c.parts.buf c.read_again.new.buf filled.1 (search (rules, places)) in
    (search (rules, places), search (rules, places), subst (Consumes _ _) (sym joined) (Consumes-trans _ _ _ _ _ filled.2 c.in_ok-count.ensures.bytes))
