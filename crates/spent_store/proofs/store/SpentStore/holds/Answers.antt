use Rattle.std.proofs.Common.{◌==◌, ◌&&◌, List, sym, ◌∙◌, ap}
use Rattle.std.specs.List.{list_any}
use Rattle.std.specs.Str.{bytes_eq}
use Rattle.spent_store.specs.Books.{EpochLog, is_spent}
use Rattle.spent_store.specs.Stores.{StoreState}
use Rattle.spent_store.specs.TagLogs.{TagLogState}
use Rattle.spent_store.proofs.StoreLogs.{any_log}
use Rattle.spent_store.proofs.store.SpentStore.holds.Goals as goal

pub returns : goal.returns
returns c =
    c.is_in.ensures
    ∙ ap (λ (logs : List TagLogState). list_any (λ (log : TagLogState). log.epoch == c.args.epoch && list_any (λ other. bytes_eq other c.args.tag.now) log.tags) logs) c.deref.ensures.value
    ∙ sym (any_log (λ (log : EpochLog). log.epoch == c.args.epoch && list_any (λ other. bytes_eq other c.args.tag.now) log.tags) c.self.inside.logs.items)
    ∙ ap (λ (store : StoreState). is_spent c.args.epoch c.args.tag.now store.book) c.self.view_is
