use Rattle.std.proofs.Common.{ℕ, List, map, ◌∙◌, ap, arith}
use Rattle.replay_disk.specs.Disk.{contents_of}
use Rattle.spent_store.specs.Root.{root_record}
use Rattle.spent_store.proofs.Cutting.{cut_records}
use Rattle.spent_store.proofs.logs.read_roots.Goals as goal

pub returns-clause-roots : goal.returns-clause-roots
returns-clause-roots g c t =
    c.in_ok-roots.ensures.roots
    ∙ ap (λ (found : List (List ℕ)). map root_record found)
    (cut_records 9 (contents_of 0 (g.R.Rack.state c.args.rack.now)) c.as_slice.result.now (omega arith) (c.as_slice.ensures ∙ c.in_ok-joined.ensures.records t))
