use Rattle.std.proofs.Common.{◌+◌, ◌*◌, ◌^◌, ◌≤◌, arith, refl, ◌∙◌}
use Rattle.field_solve.specs.Elimination.{StandsAt}
use Rattle.field_solve.proofs.Steps.{AllBelow-more, AreCleared-next}
use Rattle.field_solve.proofs.rows.reduce.Goals as goal

pub loop-row-init : goal.loop-row-init
loop-row-init c = record {
  cleared = record { at = λ place row below stands. absurd (omega arith) };
  behind = λ place h. refl;
  combined = λ poly start rows before. before;
  room = AllBelow-more (2 ^ 25) (2 ^ 25 * (0 + 1)) c.args.sums.now (omega arith) c.requires.room;
  room_combination = AllBelow-more (2 ^ 25) (2 ^ 25 * (0 + 1)) c.args.combination.now (omega arith) c.requires.room_combination;
}

pub clear-requires-clause-room : goal.clear-requires-clause-room
clear-requires-clause-room c = AllBelow-more (2 ^ 25 * (c.loop-row.row-index + 1)) (2 ^ 63) c.loop-row.sums (omega arith) c.loop-row.invariant.room

pub clear-requires-clause-room_combination : goal.clear-requires-clause-room_combination
clear-requires-clause-room_combination c = AllBelow-more (2 ^ 25 * (c.loop-row.row-index + 1)) (2 ^ 63) c.loop-row.combination (omega arith) c.loop-row.invariant.room_combination

pub loop-row-preserved : goal.loop-row-preserved
loop-row-preserved c =
    let p = c.args.prime in
    let i = c.loop-row.invariant in
    let n = c.loop-row.row-index in
    let rows = c.args.rows.now in
    let row = c.row-item.result in
    let stands : StandsAt rows n row = record { within = omega arith; is = c.row-item.is } in
    let form = c.requires.rows.each n row stands in
    let e = c.clear.ensures in
    let more : 2 ^ 25 * (n + 1) + 2 ^ 25 ≤ 2 ^ 25 * (n + 1 + 1) = omega arith in
    record {
      cleared = AreCleared-next p n rows row c.loop-row.sums c.clear.new.sums c.requires.rows stands i.cleared e.kept e.cleared;
      behind = λ place h. e.behind place (omega (arith, form.short)) ∙ i.behind place h;
      combined = λ poly start combined before. e.combined poly start (combined.each n row stands) (i.combined poly start combined before);
      room = AllBelow-more (2 ^ 25 * (n + 1) + 2 ^ 25) (2 ^ 25 * (n + 1 + 1)) c.clear.new.sums more (e.room (2 ^ 25 * (n + 1)) i.room);
      room_combination = AllBelow-more (2 ^ 25 * (n + 1) + 2 ^ 25) (2 ^ 25 * (n + 1 + 1)) c.clear.new.combination more (e.room_combination (2 ^ 25 * (n + 1)) i.room_combination);
    }

pub returns-clause-cleared : goal.returns-clause-cleared
returns-clause-cleared c = record { at = λ place row below stands. c.loop-row.invariant.cleared.at place row (omega arith) stands }
