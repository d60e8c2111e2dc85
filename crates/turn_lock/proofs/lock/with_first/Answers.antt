use Rattle.std.proofs.Common.{◌∷◌, ◌∙◌}
use Rattle.turn_lock.specs.Seen.{new_pass}
use Rattle.turn_lock.specs.Seats.{is_at_turn, made_by}
use Rattle.turn_lock.proofs.Passes.{all_numbered}
use Rattle.turn_lock.proofs.lock.with_first.Goals as goal

pub returns : goal.returns
returns g c =
    let lock = c.args.lock.now in
    let first = c.requires.first in
    c.in-Ok.ensures.items
    ∙ ((λ i. record {
      lock = first.0 i;
      number = 0;
      holds = is_at_turn (first.1 i).0.role;
      origin = (first.1 i).0.origin;
      seen = (first.1 i).0.seen;
      made = made_by (first.1 i).0.callers;
    } ∷ c.args.passes.items)
    ∙ all_numbered (new_pass lock) lock.callers c.args.passes.items c.requires.some c.requires.passes)
