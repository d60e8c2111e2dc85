use Rattle.std.proofs.Common.{◌≡◌, ℕ, None, Option, inr, sym, ◌∙◌, subst, rules}
use Rattle.std.specs.Result.{IfErr}
use Rattle.replay_disk.specs.Disk.{contents_of}
use Rattle.gate_log.specs.Log.{ReadingLeaves}
use Rattle.spent_store.specs.Books.{overfull}
use Rattle.spent_store.specs.Faults.{Refuses}
use Rattle.spent_store.specs.declared.faults.Objection.{Objection}
use Rattle.spent_store.proofs.Finding.{epoch_there, no_epoch, log_used, log_unused_there, in_area_of, nothing_read, contents_at}
use Rattle.spent_store.proofs.store.found.read_epoch.Goals as goal

pub returns-in_err-read-in-Some-clause-objection : goal.returns-in_err-read-in-Some-clause-objection
returns-in_err-read-in-Some-clause-objection g c t =
    let there = epoch_there c.args.area c.args.begun.now c.in-Some.epoch (sym c.epoch_of_area.ensures ∙ c.in-Some.is) in
    let s0 = g.R.Rack.state c.args.rack.now in
    subst (λ (objection : Option Objection). IfErr c.from_residual.result (λ fault. Refuses fault objection)) (sym (log_used c.args.limit c.args.area (contents_of c.args.area s0) c.args.begun.now there.1))
    (subst (λ (area : ℕ). IfErr c.from_residual.result (λ fault. Refuses fault (overfull c.args.limit area 32 (contents_of area s0)))) there.0 (search rules))

pub returns-in_err-read-in-Some-clause-each_moment : goal.returns-in_err-read-in-Some-clause-each_moment
returns-in_err-read-in-Some-clause-each_moment g c t =
    let there = epoch_there c.args.area c.args.begun.now c.in-Some.epoch (sym c.epoch_of_area.ensures ∙ c.in-Some.is) in
    let s0 = g.R.Rack.state c.args.rack.now in
    let s1 = g.R.Rack.state c.read.new.rack in
    let reading = subst (λ (area : ℕ). ReadingLeaves area s0 s1) there.0 (c.read.ensures.each_moment t) in
    nothing_read c.args.area c.args.begun.now s0 s1 (inr there.1) reading

pub returns-in_err-read-in-Some-clause-others : goal.returns-in_err-read-in-Some-clause-others
returns-in_err-read-in-Some-clause-others g c t =
    let there = epoch_there c.args.area c.args.begun.now c.in-Some.epoch (sym c.epoch_of_area.ensures ∙ c.in-Some.is) in
    let s0 = g.R.Rack.state c.args.rack.now in
    let s1 = g.R.Rack.state c.read.new.rack in
    let reading = subst (λ (area : ℕ). ReadingLeaves area s0 s1) there.0 (c.read.ensures.each_moment t) in
    reading.now.others

pub returns-in_ok-read-in-Some-clause-each_moment : goal.returns-in_ok-read-in-Some-clause-each_moment
returns-in_ok-read-in-Some-clause-each_moment g c t =
    let there = epoch_there c.args.area c.args.begun.now c.in-Some.epoch (sym c.epoch_of_area.ensures ∙ c.in-Some.is) in
    let s0 = g.R.Rack.state c.args.rack.now in
    let s1 = g.R.Rack.state c.read.new.rack in
    let reading = subst (λ (area : ℕ). ReadingLeaves area s0 s1) there.0 (c.read.ensures.each_moment t) in
    nothing_read c.args.area c.args.begun.now s0 s1 (inr there.1) reading

pub returns-in_ok-read-in-Some-clause-others : goal.returns-in_ok-read-in-Some-clause-others
returns-in_ok-read-in-Some-clause-others g c t =
    let there = epoch_there c.args.area c.args.begun.now c.in-Some.epoch (sym c.epoch_of_area.ensures ∙ c.in-Some.is) in
    let s0 = g.R.Rack.state c.args.rack.now in
    let s1 = g.R.Rack.state c.read.new.rack in
    let reading = subst (λ (area : ℕ). ReadingLeaves area s0 s1) there.0 (c.read.ensures.each_moment t) in
    reading.now.others

pub returns-in_ok-read-in-Some-clause-unwritten : goal.returns-in_ok-read-in-Some-clause-unwritten
returns-in_ok-read-in-Some-clause-unwritten g c t =
    let there = epoch_there c.args.area c.args.begun.now c.in-Some.epoch (sym c.epoch_of_area.ensures ∙ c.in-Some.is) in
    let s0 = g.R.Rack.state c.args.rack.now in
    let s1 = g.R.Rack.state c.read.new.rack in
    let reading = subst (λ (area : ℕ). ReadingLeaves area s0 s1) there.0 (c.read.ensures.each_moment t) in
    contents_at c.args.area s0.areas s1.areas (subst (λ (area : ℕ). contents_of area s1 ≡ contents_of area s0) there.0 (c.read.ensures.unwritten t)) reading.now.others

pub returns-in_ok-read-in-Some-clause-in_area : goal.returns-in_ok-read-in-Some-clause-in_area
returns-in_ok-read-in-Some-clause-in_area g c =
    let there = epoch_there c.args.area c.args.begun.now c.in-Some.epoch (sym c.epoch_of_area.ensures ∙ c.in-Some.is) in
    in_area_of c.in_ok-read-in-Some.read c.args.area c.args.limit c.in-Some.epoch c.in_ok-read-in-Some.ensures.epoch there.0 c.in_ok-read-in-Some.ensures.limit

pub returns-in_ok-read-in-Some-clause-fits : goal.returns-in_ok-read-in-Some-clause-fits
returns-in_ok-read-in-Some-clause-fits g c t =
    let there = epoch_there c.args.area c.args.begun.now c.in-Some.epoch (sym c.epoch_of_area.ensures ∙ c.in-Some.is) in
    let s0 = g.R.Rack.state c.args.rack.now in
    log_used c.args.limit c.args.area (contents_of c.args.area s0) c.args.begun.now there.1
    ∙ subst (λ (area : ℕ). overfull c.args.limit area 32 (contents_of area s0) ≡ None) there.0 (c.in_ok-read-in-Some.ensures.fits t)

pub returns-in-None-clause-fits : goal.returns-in-None-clause-fits
returns-in-None-clause-fits g c t =
    log_unused_there c.args.limit c.args.area (contents_of c.args.area (g.R.Rack.state c.args.rack.now)) c.args.begun.now (no_epoch c.args.area c.args.begun.now (sym c.epoch_of_area.ensures ∙ c.in-None.is))
