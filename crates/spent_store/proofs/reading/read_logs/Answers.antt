use Rattle.std.proofs.Common.{ℕ, ◌*◌, ◌≤◌, List, length, map, ◌∙◌, ap, sym, subst, arith}
use Rattle.std.specs.List.{AllByRecursion, concat}
use Rattle.replay_disk.specs.Disk.{RackState, contents_of}
use Rattle.gate_log.specs.Records.{records}
use Rattle.spent_store.specs.Books.{EpochLog}
use Rattle.spent_store.proofs.Cutting.{cut_logs, cut_epochs, cut_fits}
use Rattle.spent_store.proofs.reading.read_logs.Goals as goal

pub returns-clause-logs : goal.returns-clause-logs
returns-clause-logs g c t =
    let same = ap (λ (s : RackState). concat (records 32 (contents_of 2 s))) c.read_used.ensures.same in
    c.in_ok-logs.ensures
    ∙ cut_logs c.as_slice.result.now c.as_slice-2.result.now (contents_of 1 (g.R.Rack.state c.args.rack.now)) (contents_of 2 (g.R.Rack.state c.args.rack.now)) c.args.begun.now
    (λ used. c.as_slice.ensures ∙ c.in_ok-one.ensures.records t used) (λ used. c.as_slice-2.ensures ∙ c.in_ok-two.ensures.records t used ∙ same)

pub returns-clause-epochs : goal.returns-clause-epochs
returns-clause-epochs g c =
    ap (λ (logs : List EpochLog). map (λ (log : EpochLog). log.epoch) logs) c.in_ok-logs.ensures ∙ cut_epochs c.as_slice.result.now c.as_slice-2.result.now c.args.begun.now

pub returns-clause-fits : goal.returns-clause-fits
returns-clause-fits g c =
    let one : length c.as_slice.result.now ≤ 32 * c.args.limit = omega (arith, c.in_ok-one.ensures.short, ap (λ (xs : List ℕ). length xs) c.as_slice.ensures) in
    let two : length c.as_slice-2.result.now ≤ 32 * c.args.limit = omega (arith, c.in_ok-two.ensures.short, ap (λ (xs : List ℕ). length xs) c.as_slice-2.ensures) in
    subst (λ (logs : List EpochLog). AllByRecursion (λ (log : EpochLog). length log.tags ≤ c.args.limit) logs) (sym c.in_ok-logs.ensures)
    (cut_fits c.args.limit c.as_slice.result.now c.as_slice-2.result.now c.args.begun.now one two)
