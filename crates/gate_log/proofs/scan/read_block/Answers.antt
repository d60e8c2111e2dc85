use Rattle.std.proofs.Common.{length, take, refl, rules}
use Rattle.replay_disk.specs.Disk.{contents_of}
use Rattle.gate_log.proofs.Blocks.{block_count, block_found}
use Rattle.gate_log.proofs.scan.read_block.Goals as goal

pub returns-clause-taken : goal.returns-clause-taken
returns-clause-taken g c t =
    let bytes = contents_of c.args.area (g.R.Rack.state c.args.rack.now) in
    let n = c.in_ok-bytes.bytes in
    let read = c.in_ok-bytes.ensures.bytes t in
    block_count c.args.size c.args.count _ (length c.args.buf.now) n bytes (take n c.read.new.buf) (c.requires.there t) refl read.count read.bytes c.requires.long c.args.most c.in_ok-taken.taken c.requires.most c.in_ok-taken.ensures.count

pub returns-clause-found : goal.returns-clause-found
returns-clause-found g c t =
    let bytes = contents_of c.args.area (g.R.Rack.state c.args.rack.now) in
    let n = c.in_ok-bytes.bytes in
    let read = c.in_ok-bytes.ensures.bytes t in
    block_found c.args.size c.args.count _ (length c.args.buf.now) n bytes (take n c.read.new.buf) (c.requires.there t) refl read.count read.bytes c.requires.long c.in_ok-taken.taken c.args.found.now.items c.copy_records.new.found.items (search rules) (c.requires.so_far t) c.in_ok-taken.ensures.found
