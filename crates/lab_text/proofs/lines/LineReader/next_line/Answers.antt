-- What the search for a line feed says of the bytes before it.
use Rattle.lab_text.proofs.LinesOf.{feed_first, feed_nowhere}
use Rattle.lab_text.proofs.lines.LineReader.next_line.Goals as goal

pub take_line-requires-clause-first : goal.take_line-requires-clause-first
take_line-requires-clause-first g c =
    let s = c.blocks-2.self in
    feed_first s.block.items c.deref.result.now s.place s.end c.in-Some.length c.deref.ensures.value c.in-Some.ensures

pub keep_block-requires : goal.keep_block-requires
keep_block-requires g c =
    let s = c.blocks-2.self in
    record { no_feed = feed_nowhere s.block.items c.deref.result.now s.place s.end c.deref.ensures.value c.in-None.ensures }
