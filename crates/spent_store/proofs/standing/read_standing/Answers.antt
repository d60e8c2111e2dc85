use Rattle.std.proofs.Common.{◌≡◌, ◌+◌, ◌<◌, ◌==◌, false, List, [], ◌∷◌, ◌++◌, length, get_or, take, drop, sym, ◌∙◌, ap, arith}
use Rattle.std.proofs.lemmas.List.{take_more, drop_more, length-take-le}
use Rattle.spent_store.specs.Root.{is_amiss_at, first_amiss}
use Rattle.spent_store.specs.declared.root.RootRecord.{RootRecord}
use Rattle.spent_store.specs.declared.root.RootRecord.TheVariants.{Made}
use Rattle.spent_store.proofs.StandingLaws.{floor_read, begun_read, none_amiss_read}
use Rattle.spent_store.proofs.standing.read_standing.Goals as goal

pub reading-preserved : goal.reading-preserved
reading-preserved c =
    let roots = c.args.roots.now in
    let i = c.reading.i in
    let front = take i roots in
    let root = get_or roots i (Made 0) in
    let before = c.reading.invariant in
    let within : i < length roots = omega arith in
    let longer : take (i + 1) roots ≡ front ++ root ∷ [] = take_more roots i (Made 0) within in
    let behind : drop i roots ≡ root ∷ drop (i + 1) roots = drop_more roots i (Made 0) within in
    let so_many : length front ≡ i = length-take-le i roots (omega arith) in
    let right : is_amiss_at (length front == 0) c.reading.floor c.reading.begun.items root ≡ false
    = rw (so_many, ← c.deref.ensures.value) (sym c.is_amiss.ensures ∙ c.if-is_amiss.false) in
    record {
      floor = rw longer (floor_read front root c.reading.floor c.floor_after-floor.result before.floor c.floor_after-floor.ensures);
      begun = rw longer (begun_read front root c.reading.floor c.reading.begun.items c.in_ok-begun.begun.items before.floor before.begun right c.in_ok-begun.ensures);
      none_amiss = rw longer
          (before.none_amiss ∙ ap (λ (rest : List RootRecord). first_amiss front rest) behind
          ∙ none_amiss_read front root (drop (i + 1) roots) c.reading.floor c.reading.begun.items before.floor before.begun right);
    }
