use Rattle.std.proofs.Common.{ℕ, ap}
use Rattle.turn_lock.specs.Seen.{Caller}
use Rattle.turn_lock.proofs.Rounds.{last_pass}
use Rattle.turn_lock.proofs.tests.last.Goals as goal

pub returns-in-Some : goal.returns-in-Some
returns-in-Some c =
    let l = last_pass c.args.lock.now c.args.number _ _ c.in-Some.pass c.requires c.in-Some.ensures.items in
    (((ap (λ (p : Caller ℕ). p.lock) l.1, ap (λ (p : Caller ℕ). p.origin) l.1), ap (λ (p : Caller ℕ). p.holds) l.1, ap (λ (p : Caller ℕ). p.number) l.1), l.0)
