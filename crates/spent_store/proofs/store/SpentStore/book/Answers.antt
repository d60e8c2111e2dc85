-- No two logs are of one epoch, so the number of different pairs is a sum.
use Rattle.std.proofs.Common.{◌≡◌, List, length, sum_by, sym, ◌∙◌, ap}
use Rattle.spent_store.specs.Books.{StoredBook, distinct_count}
use Rattle.spent_store.specs.Kept.{book_with}
use Rattle.spent_store.specs.Seen.{summary}
use Rattle.spent_store.specs.Stores.{StoreState}
use Rattle.spent_store.specs.TagLogs.{TagLogState}
use Rattle.spent_store.proofs.SpentLaws.{spent_by_logs}
use Rattle.spent_store.proofs.StoreLogs.{logs_summed}
use Rattle.spent_store.proofs.StoreOpening.{logs_near_again}
use Rattle.spent_store.proofs.store.SpentStore.book.Goals as goal

pub returns : goal.returns
returns c =
    let parts = c.self.inside in
    let book : StoredBook = book_with parts.floor parts.logs.items parts.roots.items in
    let spent = c.spent_in.ensures ∙ ap (λ (logs : List TagLogState). sum_by (λ (log : TagLogState). distinct_count log.tags) logs) c.deref.ensures.value ∙ logs_summed parts.logs.items
    ∙ sym (spent_by_logs book (logs_near_again parts.floor parts.logs.items c.self.invariant.2)) in
    let root : c.count.result ≡ length parts.roots.items = c.count.ensures.count ∙ c.self.invariant.1.count in
    (λ i. record { floor = parts.floor; spent = spent i; root = root i }) ∙ ap (λ (s : StoreState). summary s.book) c.self.view_is
