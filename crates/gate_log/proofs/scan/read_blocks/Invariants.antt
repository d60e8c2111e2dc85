use Rattle.std.proofs.Common.{◌≡◌, ◌*◌, ◌≤◌, length, take, vec_len}
use Rattle.std.specs.List.{concat}
use Rattle.replay_disk.specs.Disk.{OnlyRead, Owes, contents_of}
use Rattle.gate_log.specs.Records.{records}
use Rattle.gate_log.proofs.scan.read_blocks.Given as goal

abbrev pub invariant-loop-block : goal.invariant-loop-block
invariant-loop-block g l = record {
  within : l.block * 128 ≤ l.limit;
  there : g.R.Rack.tells → l.block * 128 ≤ length (records l.size (contents_of l.area (g.R.Rack.state l.fn.rack)));
  found : g.R.Rack.tells → l.found.items ≡ concat (take (l.block * 128) (records l.size (contents_of l.area (g.R.Rack.state l.fn.rack))));
  whole : vec_len l.found ≡ l.size * (l.block * 128);
  same : OnlyRead (g.R.Rack.state l.fn.rack) (g.R.Rack.state l.rack);
  owes : Owes l.block ⊥ (g.R.Rack.state l.fn.rack) (g.R.Rack.state l.rack);
}
