use Rattle.std.proofs.Common.{rules, length, [], ◌∷◌, ◌++◌, List, Option, Some, ap, sym, ◌∙◌, subst}
use Rattle.atomic_table.specs.Table.{opening}
use Rattle.turn_lock.specs.TurnRule.{OneStory}
use Rattle.turn_lock.specs.Seats.{first_seat}
use Rattle.turn_lock.proofs.Keeps.{opens}
use Rattle.turn_lock.proofs.lock.lay.Goals as goal

pub new-requires : goal.new-requires
new-requires g c =
    let origin = g.T.Storied.origin in
    let story = g.T.Storied.story in
    let x = c.of.result.value in
    let R : List (Option g.row.T.Denot) → Type 0 = λ xs. OneStory origin story g.T.Storied.caller (origin x) (story x) c.args.callers (opening (c.entries-entries.result ∷ 0 ∷ []) xs (first_seat 1 (origin x) (story x))) in
    let full = c.push_reserved.ensures.items ∙ ap (λ l. l ++ Some c.args.value ∷ []) c.in-Ok.ensures.items in
    let same = sym c.of.ensures in
    subst R (sym full) (opens origin story g.T.Storied.caller (origin x) (story x) c.args.callers c.args.value c.entries-entries.result c.requires (ap origin same) (ap story same) (c.entries-entries.ensures ∙ ap (λ z. length (story z)) same) (search rules))
