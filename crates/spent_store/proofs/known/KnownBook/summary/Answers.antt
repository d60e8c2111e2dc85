-- No two logs are of one epoch, so the number of different pairs is a sum.
use Rattle.std.proofs.Common.{◌≡◌, List, length, sum_by, sym, ◌∙◌, ap, rules}
use Rattle.spent_store.specs.Books.{EpochLog, StoredBook, distinct_count}
use Rattle.spent_store.specs.Seen.{summary}
use Rattle.spent_store.proofs.SpentLaws.{spent_by_logs}
use Rattle.spent_store.proofs.known.KnownBook.summary.Goals as goal

pub returns : goal.returns
returns c =
    let known : StoredBook = record { floor = c.self.inside.floor; logs = c.self.inside.logs.items; roots = c.self.inside.roots.items } in
    let spent = c.known_spent.ensures ∙ ap (λ (logs : List EpochLog). sum_by (λ (log : EpochLog). distinct_count log.tags) logs) c.deref.ensures.value ∙ sym (spent_by_logs known c.self.invariant.0) in
    let root : c.len.result ≡ length c.self.inside.roots.items = search rules in
    (λ i. record { floor = c.self.inside.floor; spent = spent i; root = root i }) ∙ ap summary c.self.view_is
