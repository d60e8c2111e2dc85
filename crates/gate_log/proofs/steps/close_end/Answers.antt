use Rattle.std.proofs.Common.{◌≡◌, ℕ, ◌+◌, ◌*◌, refl, sym, ◌∙◌, ap, arith}
use Rattle.replay_disk.specs.Disk.{contents_of}
use Rattle.gate_log.specs.Log.{IsClosingOf}
use Rattle.gate_log.specs.Records.{end_place}
use Rattle.gate_log.proofs.Moments.{each_started, closing_itself, closing_moments, closing_done}
use Rattle.gate_log.proofs.Scanning.{end_within}
use Rattle.gate_log.proofs.Standing.{closes_nothing, shut_rests, shut_kept, shut_end, shut_closes}
use Rattle.gate_log.proofs.steps.close_end.Goals as goal

pub returns-then-closed-clause-each_moment : goal.returns-then-closed-clause-each_moment
returns-then-closed-clause-each_moment g c t =
    let s0 = g.R.Rack.state c.args.rack.now in
    each_started c.args.area (IsClosingOf c.args.size (contents_of c.args.area s0)) s0 (c.requires.at_rest t) (closing_itself c.args.size (contents_of c.args.area s0))

pub returns-then-closed-clause-contents : goal.returns-then-closed-clause-contents
returns-then-closed-clause-contents g c t = closes_nothing c.args.size (contents_of c.args.area (g.R.Rack.state c.args.rack.now)) (c.requires.shut t c.if-closed.true)

at_end : (size count place : ℕ) (records_count : ℕ) → records_count ≡ count → place ≡ count * (size + 1) → place ≡ (size + 1) * records_count
at_end size count place n is at = at ∙ ap (λ (k : ℕ). k * (size + 1)) (sym is) ∙ omega arith

pub write_synced-requires-clause-place : goal.write_synced-requires-clause-place
write_synced-requires-clause-place g c t =
    let bytes = contents_of c.args.area (g.R.Rack.state c.args.rack.now) in
    let at : c.args.count * (c.args.size + 1) ≡ end_place c.args.size bytes = at_end c.args.size c.args.count _ _ (c.requires.count t) refl in
    omega (arith, at, end_within c.args.size bytes)

pub returns-in_err-write_synced-clause-each_moment : goal.returns-in_err-write_synced-clause-each_moment
returns-in_err-write_synced-clause-each_moment g c t =
    closing_moments c.args.area (c.args.count * (c.args.size + 1)) c.args.size (g.R.Rack.state c.args.rack.now) (g.R.Rack.state c.write_synced.new.rack)
    (at_end c.args.size c.args.count _ _ (c.requires.count t) refl) (c.requires.few t c.if-closed.false) (c.write_synced.ensures.each_moment t (c.requires.at_rest t))

pub returns-clause-each_moment : goal.returns-clause-each_moment
returns-clause-each_moment g c t =
    closing_moments c.args.area (c.args.count * (c.args.size + 1)) c.args.size (g.R.Rack.state c.args.rack.now) (g.R.Rack.state c.write_synced.new.rack)
    (at_end c.args.size c.args.count _ _ (c.requires.count t) refl) (c.requires.few t c.if-closed.false) (c.write_synced.ensures.each_moment t (c.requires.at_rest t))

pub returns-clause-at_rest : goal.returns-clause-at_rest
returns-clause-at_rest g c t =
    let s0 = g.R.Rack.state c.args.rack.now in
    let s1 = g.R.Rack.state c.write_synced.new.rack in
    let few = c.requires.few t c.if-closed.false in
    shut_rests c.args.area c.args.size s0 s1 few
    (closing_done c.args.area (c.args.count * (c.args.size + 1)) c.args.size s0 s1 (at_end c.args.size c.args.count _ _ (c.requires.count t) refl) few (c.in_ok-write_synced.ensures.written t))

pub returns-clause-kept : goal.returns-clause-kept
returns-clause-kept g c t =
    let s0 = g.R.Rack.state c.args.rack.now in
    let s1 = g.R.Rack.state c.write_synced.new.rack in
    let few = c.requires.few t c.if-closed.false in
    shut_kept c.args.area c.args.size s0 s1 few
    (closing_done c.args.area (c.args.count * (c.args.size + 1)) c.args.size s0 s1 (at_end c.args.size c.args.count _ _ (c.requires.count t) refl) few (c.in_ok-write_synced.ensures.written t))

pub returns-clause-end : goal.returns-clause-end
returns-clause-end g c t =
    let s0 = g.R.Rack.state c.args.rack.now in
    let s1 = g.R.Rack.state c.write_synced.new.rack in
    let few = c.requires.few t c.if-closed.false in
    shut_end c.args.area c.args.size s0 s1 few
    (closing_done c.args.area (c.args.count * (c.args.size + 1)) c.args.size s0 s1 (at_end c.args.size c.args.count _ _ (c.requires.count t) refl) few (c.in_ok-write_synced.ensures.written t))

pub returns-clause-contents : goal.returns-clause-contents
returns-clause-contents g c t =
    let s0 = g.R.Rack.state c.args.rack.now in
    let s1 = g.R.Rack.state c.write_synced.new.rack in
    let few = c.requires.few t c.if-closed.false in
    shut_closes c.args.area c.args.size s0 s1 few
    (closing_done c.args.area (c.args.count * (c.args.size + 1)) c.args.size s0 s1 (at_end c.args.size c.args.count _ _ (c.requires.count t) refl) few (c.in_ok-write_synced.ensures.written t)) (c.requires.unshut t c.if-closed.false)
