use Rattle.std.proofs.Common.{◌≡◌, false, ◌∷◌, arith, ap, sym, ◌∙◌}
use Rattle.turn_lock.specs.Seen.{Lock, Caller, IsOf}
use Rattle.turn_lock.proofs.Keeps.{join_kept}
use Rattle.turn_lock.proofs.Passes.{popped, of_popped, joined}
use Rattle.turn_lock.proofs.lock.gather.Goals as goal

pub seat_of-requires : goal.seat_of-requires
seat_of-requires g c =
    let P : Caller g.row.T-Entry.Denot → Type 0 = λ p. p.holds ≡ false in
    let before = c.loop-pass.invariant in
    of_popped P c.args.passes.items c.loop-pass.passes.items c.pop-in-loop-pass.new.self.items before.0 c.in-Some-pop.pass before.1 c.in-Some-pop.ensures.items c.requires.rest

pub join_seat-requires : goal.join_seat-requires
join_seat-requires g c =
    let before = c.loop-pass.invariant in
    let own = of_popped (IsOf c.args.lock.now) c.args.passes.items c.loop-pass.passes.items c.pop-in-loop-pass.new.self.items before.0 c.in-Some-pop.pass before.1 c.in-Some-pop.ensures.items c.requires.own in
    let here = ap (λ (l : Lock g.row.T-Entry.Denot). l.id) c.lock.view_is in
    let his = c.seat_of.ensures in (
      before.2.table ∙ sym here,
      his.0 ∙ (own.0 ∙ sym here),
      his.2,
      (let two = c.lock.invariant.0 in omega arith),
      join_kept g.T.Storied.origin g.T.Storied.story g.T.Storied.caller _ _ _ _ _ _ _ before.2.rests his.1,
    )

pub loop-pass-preserved : goal.loop-pass-preserved
loop-pass-preserved g c =
    let before = c.loop-pass.invariant in
    let now = c.join_seat.ensures in (
      c.in-Some-pop.pass ∷ before.0,
      popped c.args.passes.items c.loop-pass.passes.items c.pop-in-loop-pass.new.self.items before.0 c.in-Some-pop.pass before.1 c.in-Some-pop.ensures.items,
      joined c.args.lock.now before.0 c.in-Some-pop.pass c.loop-pass.all c.seat_of.result c.join_seat.new.seat before.2 c.seat_of.ensures now.0 now.2,
    )
