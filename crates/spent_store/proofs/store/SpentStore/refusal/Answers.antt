use Rattle.std.proofs.Common.{◌≤◌, Bool, if◌then◌else◌, Some, None, sym, ◌∙◌, ap, arith}
use Rattle.spent_store.specs.Stores.{StoreState}
use Rattle.spent_store.specs.declared.faults.ClaimFault.TheVariants.{ShardFull}
use Rattle.spent_store.proofs.StoreLogs.{refused_full}
use Rattle.spent_store.proofs.store.SpentStore.refusal.Goals as goal

pub returns-then-is_full-clause-answer : goal.returns-then-is_full-clause-answer
returns-then-is_full-clause-answer c =
    let store = c.args.self.now in
    let low : store.book.floor ≤ c.args.epoch = omega (arith, c.if-epoch-self.false, ap (λ (s : StoreState). s.book.floor) c.self.view_is) in
    let unspent = sym c.holds.ensures ∙ c.if-holds.false in
    ap (λ (full : Bool). if full then Some ShardFull else None) (sym c.if-is_full.true)
    ∙ refused_full store.limit c.args.epoch c.args.tag.now c.args.least store.book c.is_full.result low unspent c.is_full.ensures

pub returns-clause-answer : goal.returns-clause-answer
returns-clause-answer c =
    let store = c.args.self.now in
    let low : store.book.floor ≤ c.args.epoch = omega (arith, c.if-epoch-self.false, ap (λ (s : StoreState). s.book.floor) c.self.view_is) in
    let unspent = sym c.holds.ensures ∙ c.if-holds.false in
    ap (λ (full : Bool). if full then Some ShardFull else None) (sym c.if-is_full.false)
    ∙ refused_full store.limit c.args.epoch c.args.tag.now c.args.least store.book c.is_full.result low unspent c.is_full.ensures
