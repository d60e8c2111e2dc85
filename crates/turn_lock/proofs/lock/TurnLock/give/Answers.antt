use Rattle.std.proofs.Common.{◌≡◌, ap, sym, ◌∙◌, subst, All}
use Rattle.turn_lock.specs.Seen.{Caller, resting}
use Rattle.turn_lock.specs.Stories.{after, Begins}
use Rattle.turn_lock.proofs.Passes.{brings, hand_of, is_back, rested_is, rests_again, gave}
use Rattle.turn_lock.proofs.lock.TurnLock.give.Goals as goal

pub count-requires-clause-brings : goal.count-requires-clause-brings
count-requires-clause-brings g c =
    let story = g.T.Storied.story in
    let turns = ap (λ (p : Caller g.row.T-Entry.Denot). p.holds) c.pass.view_is ∙ c.requires.holds in
    let B : Caller g.row.T-Entry.Denot → Type 0 = λ p. Begins p.seen (story c.args.value) in
    let H : Caller g.row.T-Entry.Denot → Type 0 = λ p. All (λ e. g.T.Storied.caller e ≡ p.number) (after p.seen (story c.args.value)) in
    brings g.T.Storied.origin story g.T.Storied.caller _ _ _ c.pass.invariant turns c.args.value (subst B (sym c.pass.view_is) c.requires.begins)
    _ (subst H (sym c.pass.view_is) c.requires.own_entries) c.entries.ensures

pub put_back-requires-clause-empty : goal.put_back-requires-clause-empty
put_back-requires-clause-empty g c =
    let turns = ap (λ (p : Caller g.row.T-Entry.Denot). p.holds) c.pass.view_is ∙ c.requires.holds in
    let B : Caller g.row.T-Entry.Denot → Type 0 = λ p. Begins p.seen (g.T.Storied.story c.args.value) in
    hand_of g.T.Storied.origin g.T.Storied.story g.T.Storied.caller _ _ _ c.pass.invariant turns c.args.value (subst B (sym c.pass.view_is) c.requires.begins) _ c.count.ensures.counted

pub end-requires-clause-back : goal.end-requires-clause-back
end-requires-clause-back g c =
    let turns = ap (λ (p : Caller g.row.T-Entry.Denot). p.holds) c.pass.view_is ∙ c.requires.holds in
    let B : Caller g.row.T-Entry.Denot → Type 0 = λ p. Begins p.seen (g.T.Storied.story c.args.value) in
    let same = c.requires.origin ∙ (sym c.requires.own.1 ∙ sym (ap (λ (p : Caller g.row.T-Entry.Denot). p.origin) c.pass.view_is)) in
    is_back g.T.Storied.origin g.T.Storied.story g.T.Storied.caller _ _ _ c.pass.invariant turns c.args.value (subst B (sym c.pass.view_is) c.requires.begins) _ _ c.count.ensures.counted c.put_back.ensures.back same

pub invariant_of-pass : goal.invariant_of-pass
invariant_of-pass g c =
    let turns = ap (λ (p : Caller g.row.T-Entry.Denot). p.holds) c.pass.view_is ∙ c.requires.holds in
    let B : Caller g.row.T-Entry.Denot → Type 0 = λ p. Begins p.seen (g.T.Storied.story c.args.value) in
    let begins = subst B (sym c.pass.view_is) c.requires.begins in
    let rested = rested_is g.T.Storied.origin g.T.Storied.story g.T.Storied.caller _ _ _ c.pass.invariant turns c.args.value begins _ _ _ c.count.ensures.counted c.put_back.ensures.back c.end.ensures.ends in
    rests_again g.T.Storied.origin g.T.Storied.story g.T.Storied.caller _ _ _ c.pass.invariant turns c.args.value begins _ _ rested

pub returns : goal.returns
returns g c =
    let turns = ap (λ (p : Caller g.row.T-Entry.Denot). p.holds) c.pass.view_is ∙ c.requires.holds in
    let B : Caller g.row.T-Entry.Denot → Type 0 = λ p. Begins p.seen (g.T.Storied.story c.args.value) in
    let begins = subst B (sym c.pass.view_is) c.requires.begins in
    let rested = rested_is g.T.Storied.origin g.T.Storied.story g.T.Storied.caller _ _ _ c.pass.invariant turns c.args.value begins _ _ _ c.count.ensures.counted c.put_back.ensures.back c.end.ensures.ends in
    let same = c.end.ensures.seat.0 ∙ (c.put_back.ensures.seat.0 ∙ c.count.ensures.seat.0) in
    record { pass = gave g.T.Storied.origin g.T.Storied.story g.T.Storied.caller _ _ _ c.pass.invariant turns c.args.value begins _ _ _ same rested ∙ ap (λ (p : Caller g.row.T-Entry.Denot). resting p (g.T.Storied.story c.args.value)) c.pass.view_is }
