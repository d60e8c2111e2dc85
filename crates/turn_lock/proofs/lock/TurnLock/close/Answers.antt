use Rattle.std.proofs.Common.{◌≡◌, ℕ, ◌<◌, false, Any, sym, ◌∙◌, subst}
use Rattle.std.proofs.lemmas.List.Sorted.{All-permutation, IsPermutation-sym}
use Rattle.turn_lock.specs.Seen.{Lock, Caller, IsOf}
use Rattle.turn_lock.specs.Seats.{SpeaksFor}
use Rattle.turn_lock.proofs.Closing.{Ends, closing, unwrapped}
use Rattle.turn_lock.proofs.lock.TurnLock.close.Goals as goal

pub gather-all-requires-clause-own : goal.gather-all-requires-clause-own
gather-all-requires-clause-own g c = All-permutation (IsOf c.args.self) c.args.passes.items _ c.first_to_end.ensures.same c.requires.own

pub gather-all-requires-clause-rest : goal.gather-all-requires-clause-rest
gather-all-requires-clause-rest g c = All-permutation (λ (p : Caller g.row.T-Entry.Denot). p.holds ≡ false) c.args.passes.items _ c.first_to_end.ensures.same c.requires.rest

pub unreachable-requires : goal.unreachable-requires
unreachable-requires g c =
    let key = c.self.inside.table.shared.key in
    let origin = g.T.Storied.origin in
    let story = g.T.Storied.story in
    let lock : Lock g.row.T-Entry.Denot = record { id = c.self.inside.table.shared.table_id; callers = key.callers; origin = origin key.value.value; story = story key.value.value } in
    let P : Lock g.row.T-Entry.Denot → Type 0 = λ l. (n : ℕ) → n < l.callers → Any (λ p. p.number ≡ n) c.args.passes.items in
    let seat = c.gather-all.ensures in
    let speaks = All-permutation (SpeaksFor c.gather-all.result.me.0) _ c.args.passes.items (IsPermutation-sym c.args.passes.items _ c.first_to_end.ensures.same) seat.speaks in
    let end = closing origin story g.T.Storied.caller lock c.args.passes.items _ c.gather-all.result.me.0 _ _ c.slot_of.result c.close_with.ensures.values.2 seat.rests speaks (subst P (sym c.self.view_is) c.requires.every) c.slot_of.ensures in
    c.in_default.not-Some end.0 end.1

pub returns : goal.returns
returns g c =
    let key = c.self.inside.table.shared.key in
    let origin = g.T.Storied.origin in
    let story = g.T.Storied.story in
    let lock : Lock g.row.T-Entry.Denot = record { id = c.self.inside.table.shared.table_id; callers = key.callers; origin = origin key.value.value; story = story key.value.value } in
    let P : Lock g.row.T-Entry.Denot → Type 0 = λ l. (n : ℕ) → n < l.callers → Any (λ p. p.number ≡ n) c.args.passes.items in
    let seat = c.gather-all.ensures in
    let speaks = All-permutation (SpeaksFor c.gather-all.result.me.0) _ c.args.passes.items (IsPermutation-sym c.args.passes.items _ c.first_to_end.ensures.same) seat.speaks in
    let end = closing origin story g.T.Storied.caller lock c.args.passes.items _ c.gather-all.result.me.0 _ _ c.slot_of.result c.close_with.ensures.values.2 seat.rests speaks (subst P (sym c.self.view_is) c.requires.every) c.slot_of.ensures in
    let same = unwrapped end.0 c.in-Some.value (sym end.1 ∙ c.in-Some.is) in
    let E : Lock g.row.T-Entry.Denot × g.row.T.Denot → Type 0 = λ z. Ends origin story g.T.Storied.caller z.0 c.args.passes.items z.1 in
    let ends : E (c.args.self, c.in-Some.value) = subst E (λ i. (c.self.view_is i, same i)) end.2 in
    record { origin = ends.same; begins = ends.begins; seen = ends.seen; made = ends.made; others = ends.others }
