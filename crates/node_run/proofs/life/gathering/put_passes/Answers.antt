use Rattle.std.proofs.Common.{◌≡◌, ◌<◌, List, [], ◌∷◌, length, sym, ap, ◌∙◌, subst, arith, Some, slice_set, vec_capacity, vec_len}
use Rattle.std.specs.Prelude.{slice_get}
use Rattle.std.proofs.lemmas.List.{append-nil}
use Rattle.std.proofs.lemmas.Option.{slice_get-get_or}
use Rattle.node_run.specs.Closings.{GetsPass}
use Rattle.node_run.proofs.Columns.{Spread, all_at, get_seam, last_moves, one_less, spread_start, spread_step, with_rest}
use Rattle.node_run.proofs.life.gathering.put_passes.Goals as goal

pub loop-pass-init : goal.loop-pass-init
loop-pass-init g c = ([], append-nil c.args.passes.items, spread_start GetsPass c.args.lists.now.items c.args.passes.items c.requires.many)

pub push_reserved-requires : goal.push_reserved-requires
push_reserved-requires g c =
    let before = c.loop-pass.invariant in
    let front = c.pop.new.self.items in
    let was = c.index_mut.result.now in
    let n : c.len-at.result ≡ length front = c.len-at.ensures ∙ c.pop.new.self.ok.0 in
    let many = one_less c.loop-pass.passes.items front c.in-Some.pass c.in-Some.ensures.items in
    let whole = last_moves c.loop-pass.passes.items front before.0 c.args.passes.items c.in-Some.pass c.in-Some.ensures.items before.1 in
    let all = with_rest front before.0 c.args.passes.items c.in-Some.pass whole in
    let low : c.len-at.result < length c.loop-pass.lists.items = omega (arith, n, all, before.2.many, c.requires.many) in
    let here = slice_get-get_or c.loop-pass.lists.items c.len-at.result was low ∙ ap Some (sym c.index_mut.ensures.value) in
    all_at (λ list. vec_len list < vec_capacity list) c.args.lists.now.items c.len-at.result was c.requires.room
    (before.2.before c.len-at.result was (omega (arith, n, many)) here)

pub loop-pass-preserved : goal.loop-pass-preserved
loop-pass-preserved g c =
    let before = c.loop-pass.invariant in
    let front = c.pop.new.self.items in
    let pass = c.in-Some.pass in
    let n : c.len-at.result ≡ length front = c.len-at.ensures ∙ c.pop.new.self.ok.0 in
    let many = one_less c.loop-pass.passes.items front pass c.in-Some.ensures.items in
    let whole = last_moves c.loop-pass.passes.items front before.0 c.args.passes.items pass c.in-Some.ensures.items before.1 in
    let all = with_rest front before.0 c.args.passes.items pass whole in
    let low : c.len-at.result < length c.loop-pass.lists.items = omega (arith, n, all, before.2.many, c.requires.many) in
    let there = ap (λ (xs : List g.row.Q.Denot). slice_get xs c.len-at.result) (sym whole) ∙ get_seam front before.0 pass c.len-at.result n in
    let more = c.push_reserved.ensures in
    let spread = spread_step GetsPass c.args.lists.now.items c.args.passes.items (length c.loop-pass.passes.items) c.len-at.result c.loop-pass.lists.items
    c.index_mut.result.now c.push_reserved.new.self pass (omega (arith, n, many)) before.2 low c.index_mut.ensures.value there (more.items, more.capacity) in (
      pass ∷ before.0,
      whole,
      subst (λ k. Spread GetsPass c.args.lists.now.items c.args.passes.items k (slice_set c.loop-pass.lists.items c.len-at.result c.push_reserved.new.self)) n spread,
    )

pub returns : goal.returns
returns g c =
    let before = c.loop-pass.invariant in
    let empty : length c.loop-pass.passes.items ≡ 0 = omega (arith, c.in_default.ensures.cases, c.loop-pass.passes.ok.0) in
    record {
      many = before.2.many;
      each = λ i was is pass was_at is_at pass_at. before.2.after i was is pass (omega (arith, empty)) was_at is_at pass_at;
    }
