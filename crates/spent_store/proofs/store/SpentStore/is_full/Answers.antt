use Rattle.std.proofs.Common.{◌≡◌, ◌+◌, ◌==◌, ◌||◌, nat_le, nat_lt, ℕ, List, length, sum_by, if◌then◌else◌, refl, sym, ◌∙◌, ap}
use Rattle.std.specs.List.{list_any}
use Rattle.std.proofs.lemmas.Bool.{le-leb, lt-leb}
use Rattle.spent_store.specs.Books.{has_begun}
use Rattle.spent_store.specs.Changes.{raised, begun_with}
use Rattle.spent_store.proofs.ClaimLaws.{pair_count}
use Rattle.spent_store.specs.Journals.{is_full}
use Rattle.spent_store.specs.Stores.{StoreState}
use Rattle.spent_store.specs.TagLogs.{TagLogState}
use Rattle.spent_store.proofs.StoreLogs.{any_epoch, pairs_summed, claimed_count, full_by}
use Rattle.spent_store.proofs.store.SpentStore.is_full.Goals as goal

pub returns-then-self-tags_in : goal.returns-then-self-tags_in
returns-then-self-tags_in c =
    let store = c.args.self.now in
    let count : c.tags_in.result ≡ pair_count c.args.epoch store.book.logs
    = c.tags_in.ensures.value
    ∙ ap (λ (logs : List TagLogState). sum_by (λ (log : TagLogState). if log.epoch == c.args.epoch then length log.tags else 0) logs) c.deref-2.ensures.value
    ∙ pairs_summed c.args.epoch c.self.inside.logs.items ∙ ap (λ (s : StoreState). pair_count c.args.epoch s.book.logs) c.self.view_is in
    let limit : c.self.inside.limit ≡ store.limit = ap (λ (s : StoreState). s.limit) c.self.view_is in
    let more = le-leb c.self.inside.limit c.tags_in.result c.if-self-tags_in.true in
    (λ i. nat_le c.self.inside.limit c.tags_in.result)
    ∙ more
    ∙ (λ i. sym more i || nat_lt c.self.inside.limit (length (begun_with c.args.epoch (raised c.args.least store.book)).roots))
    ∙ full_by c.self.inside.limit c.args.epoch c.args.least store.book c.tags_in.result (length (begun_with c.args.epoch (raised c.args.least store.book)).roots) count refl
    ∙ ap (λ (n : ℕ). is_full n c.args.epoch c.args.least store.book) limit

pub returns-else-self-tags_in : goal.returns-else-self-tags_in
returns-else-self-tags_in c =
    let store = c.args.self.now in
    let count : c.tags_in.result ≡ pair_count c.args.epoch store.book.logs
    = c.tags_in.ensures.value
    ∙ ap (λ (logs : List TagLogState). sum_by (λ (log : TagLogState). if log.epoch == c.args.epoch then length log.tags else 0) logs) c.deref-2.ensures.value
    ∙ pairs_summed c.args.epoch c.self.inside.logs.items ∙ ap (λ (s : StoreState). pair_count c.args.epoch s.book.logs) c.self.view_is in
    let limit : c.self.inside.limit ≡ store.limit = ap (λ (s : StoreState). s.limit) c.self.view_is in
    let less = lt-leb c.self.inside.limit c.tags_in.result c.if-self-tags_in.false in
    let has : c.has_log.result ≡ has_begun c.args.epoch store.book
    = c.has_log.ensures ∙ ap (λ (logs : List TagLogState). list_any (λ (log : TagLogState). log.epoch == c.args.epoch) logs) c.deref.ensures.value
    ∙ sym (any_epoch c.args.epoch c.self.inside.logs.items) ∙ ap (λ (s : StoreState). has_begun c.args.epoch s.book) c.self.view_is in
    let floor : c.self.inside.floor ≡ store.book.floor = ap (λ (s : StoreState). s.book.floor) c.self.view_is in
    let roots : c.count.result ≡ length store.book.roots = c.count.ensures.count ∙ c.self.invariant.1.count ∙ ap (λ (s : StoreState). length s.book.roots) c.self.view_is in
    let needed : c.records_needed-needed.result ≡ (if nat_lt store.book.floor c.args.least then 1 else 0) + (if has_begun c.args.epoch store.book then 0 else 1)
    = c.records_needed-needed.ensures ∙ (λ i. (if nat_lt (floor i) c.args.least then 1 else 0) + (if has i then 0 else 1)) in
    let total : c.count.result + c.records_needed-needed.result ≡ length (begun_with c.args.epoch (raised c.args.least store.book)).roots
    = (λ i. roots i + needed i) ∙ sym (claimed_count c.args.epoch c.args.least store.book c.requires.low) in
    (λ i. sym less i || nat_lt c.self.inside.limit (c.count.result + c.records_needed-needed.result))
    ∙ full_by c.self.inside.limit c.args.epoch c.args.least store.book c.tags_in.result (c.count.result + c.records_needed-needed.result) count total
    ∙ ap (λ (n : ℕ). is_full n c.args.epoch c.args.least store.book) limit
