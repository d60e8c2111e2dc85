use Rattle.std.proofs.Common.{◌≡◌, ◌+◌, ◌*◌, ◌≤◌, ◌++◌, length, take, drop, vec_len}
use Rattle.std.specs.List.{concat}
use Rattle.gate_log.specs.Records.{records}
use Rattle.gate_log.proofs.scan.copy_records.Given as goal

abbrev pub invariant-loop-count : goal.invariant-loop-count
invariant-loop-count l = record {
  rest : l.rest ≡ drop (l.count * (l.size + 1)) l.bytes;
  there : l.count ≤ length (records l.size l.bytes);
  found : l.found.items ≡ l.fn.found.items ++ concat (take l.count (records l.size l.bytes));
  whole : vec_len l.found ≡ vec_len l.fn.found + l.size * l.count;
}
