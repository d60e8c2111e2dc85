-- What was filled so far is what was taken.
use Rattle.std.proofs.Common.{◌≡◌, ◌≤◌, ◌-◌, length, take}
use Rattle.std.specs.Io.KnownBytes.{Consumes}
use Rattle.real_edges.proofs.transfers.read_whole.Given as goal

abbrev pub invariant-parts : goal.invariant-parts
invariant-parts g l = (length l.buf ≡ length l.initial.buf) × (l.filled ≤ length l.buf) × Consumes (g.R.Read.remaining l.initial.reader) (g.R.Read.remaining l.reader) (take l.filled l.buf)

abbrev pub decreases-parts : goal.decreases-parts
decreases-parts g l = length l.initial.buf - l.filled
