use Rattle.std.proofs.Common.{ap, sym, ◌∙◌}
use Rattle.std.specs.Vec.Iter.{into_iter_items}
use Rattle.node_run.specs.Crews.{AreHandsIn}
use Rattle.node_run.specs.Halls.{HallState}
use Rattle.node_run.proofs.Parts.{own_part}
use Rattle.node_run.proofs.life.partings.return_house.Goals as goal

pub unlived-requires-clause-hands : goal.unlived-requires-clause-hands
unlived-requires-clause-hands g c =
    own_part AreHandsIn c.args.house (into_iter_items c.args.hands.now) c.take_next-own.result.items (into_iter_items c.take_next-own.new.items) c.requires.hands
    (λ part is. is.many ∙ sym (c.take_next-own.ensures.many ∙ ap (λ (h : HallState). h.callers) c.hall.view_is)) c.take_next-own.ensures.taken
