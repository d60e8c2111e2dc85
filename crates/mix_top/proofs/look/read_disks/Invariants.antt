use Rattle.std.proofs.Common.{map, string_bytes}
use Rattle.mix_top.specs.Looking.{ReadBelow}
use Rattle.mix_top.proofs.look.read_disks.Given as goal

abbrev pub invariant-disks : goal.invariant-disks
invariant-disks g l = ReadBelow g.K.Rack.tells l.shards l.index (string_bytes l.text) (map g.K.Rack.state l.initial.disks) (map g.K.Rack.state l.disks)
