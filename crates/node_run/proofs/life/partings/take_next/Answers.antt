use Rattle.std.proofs.Common.{◌+◌, ◌++◌, length, ap, sym, ◌∙◌, arith}
use Rattle.std.specs.Vec.Iter.{into_iter_items}
use Rattle.std.proofs.lemmas.List.{length-append, length_push}
use Rattle.node_run.proofs.Moving.{one_further}
use Rattle.node_run.proofs.life.partings.take_next.Goals as goal

pub loop-init : goal.loop-init
loop-init g c = record {
  taken_are = ap (λ ts. ts ++ into_iter_items c.args.items.now) (sym c.requires.room.empty);
  long = ap (λ ts. length ts) c.requires.room.empty;
  room = c.requires.room.room;
}

pub unreachable-requires : goal.unreachable-requires
unreachable-requires g c =
    let before = c.loop.invariant in
    let all = ap (λ ts. length ts) before.taken_are ∙ length-append c.loop.taken.items (into_iter_items c.loop.items) in
    let none = c.in_default.ensures.cases in
    absurd (omega (arith, all, none, c.loop.items.rest.ok.0, before.long, c.requires.enough, c.loop-test.true))

pub push_reserved-requires : goal.push_reserved-requires
push_reserved-requires g c =
    let before = c.loop.invariant in
    omega (arith, c.loop.taken.ok.0, before.long, before.room, c.loop-test.true)

pub loop-preserved : goal.loop-preserved
loop-preserved g c =
    let before = c.loop.invariant in
    let more = c.push_reserved.ensures in
    let item = c.in-Some.item in
    let rest = into_iter_items c.next.new.self in
    record {
      taken_are = one_further (into_iter_items c.args.items.now) c.loop.taken.items (into_iter_items c.loop.items) rest item before.taken_are c.in-Some.ensures.items
          ∙ ap (λ ts. ts ++ rest) (sym more.items);
      long = ap (λ ts. length ts) more.items ∙ length_push c.loop.taken.items item ∙ ap (λ n. n + 1) before.long;
      room = omega (arith, before.room, more.capacity);
    }
