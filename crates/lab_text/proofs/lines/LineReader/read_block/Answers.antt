-- What is read comes off the front of what the source has left.
use Rattle.std.proofs.Common.{arith}
use Rattle.std.proofs.lemmas.List.{with_items_is}
use Rattle.lab_text.proofs.LinesOf.{block_read}
use Rattle.lab_text.proofs.lines.LineReader.read_block.Goals as goal

pub returns-clause-coming : goal.returns-clause-coming
returns-clause-coming g c =
    let s = c.args.self.now in
    let whole = with_items_is c.if-is_empty.self.1.1.0 c.read.new.buf (omega (arith, c.read.auto.buf, c.deref_mut.ensures.len)) in
    rw whole (block_read (g.I.Source.left s.source) (g.I.Source.left c.read.new.self) s.used s.place s.end c.in_ok-count.count s.line.items s.block.items c.read.new.buf c.in_ok-count.ensures.taken c.requires)
