use Rattle.std.proofs.Common.{[], ◌++◌, length, ap, sym, subst, ◌∙◌, arith}
use Rattle.std.specs.List.{AllZip}
use Rattle.std.specs.Vec.Iter.{into_iter_items}
use Rattle.std.proofs.lemmas.List.{length_push}
use Rattle.node_run.specs.Crews.{IsHandOf}
use Rattle.node_run.proofs.Moving.{fewer_met, one_further}
use Rattle.node_run.proofs.Parts.{all_met, one_more_both}
use Rattle.node_run.proofs.Yielding.{count_first, count_next, nothing_left}
use Rattle.node_run.proofs.life.crews.hand_all_back.Goals as goal

pub loop-actor-init : goal.loop-actor-init
loop-actor-init g c =
    let gives = c.into_iter-actor-iterator.ensures.into_iter_gives in
    record {
      whole = sym gives.0;
      count = count_first c.into_iter-actor-iterator.result c.args.actors gives.0 gives.1;
      hands = subst (λ hs. AllZip (IsHandOf {H = g.row.H.Denot} {R = g.row.R.Denot} {S = g.row.S.Denot} {N = g.row.N.Denot} {O = g.row.O.Denot} {C = g.row.C.Denot} {G = g.row.G.Denot} {K = g.row.S-K.Denot} {M = g.row.S-M.Denot} {D = g.row.S-D.Denot} {Z = g.row.S-C.Denot} {W = g.row.S-W.Denot}) [] hs) (sym c.requires.empty) tt;
      len = omega (arith, c.args.hands.ok.0, ap (λ hs. length hs) c.requires.empty);
      room = c.requires.room;
    }

pub push_reserved-requires : goal.push_reserved-requires
push_reserved-requires g c =
    let before = c.loop-actor.invariant in
    let fewer = fewer_met c.args.actors.items c.loop-actor.yielded (into_iter_items c.next.new.self) c.in-Some.actor
    (before.whole ∙ ap (λ xs. c.loop-actor.yielded ++ xs) c.in-Some.ensures.steps.0) in
    omega (arith, fewer, before.len, before.room)

pub loop-actor-preserved : goal.loop-actor-preserved
loop-actor-preserved g c =
    let before = c.loop-actor.invariant in
    let actor = c.in-Some.actor in
    let yielded = c.loop-actor.yielded in
    let rest = into_iter_items c.next.new.self in
    record {
      whole = one_further c.args.actors.items yielded (into_iter_items c.loop-actor.actor-iterator) rest actor before.whole c.in-Some.ensures.steps.0;
      count = count_next c.loop-actor.actor-iterator c.next.new.self actor c.in-Some.ensures.steps before.count;
      hands = one_more_both IsHandOf yielded c.loop-actor.hands.items c.push_reserved.new.self.items actor c.hand_back.result before.hands c.hand_back.ensures c.push_reserved.ensures.items;
      len = omega (arith, c.push_reserved.ensures.len, before.len, length_push yielded actor);
      room = omega (arith, c.push_reserved.ensures.capacity, before.room);
    }

pub returns : goal.returns
returns g c =
    let before = c.loop-actor.invariant in
    let all = all_met c.args.actors.items c.loop-actor.yielded (into_iter_items c.loop-actor.actor-iterator) before.whole
    (nothing_left c.loop-actor.actor-iterator before.count c.in-None.ensures.steps.0) in
    subst (λ xs. AllZip IsHandOf xs c.loop-actor.hands.items) all before.hands
