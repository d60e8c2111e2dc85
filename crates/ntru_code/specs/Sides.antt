-- Words of private functions' contracts alone: what makes packing by a form go both ways.
use Rattle.std.specs.Prelude.{◌≡◌, ℕ, suc, ◌+◌, ◌*◌, ◌^◌, ◌<◌, ◌≤◌}
use Rattle.ntru_code.specs.Packing.{last_of}
use Rattle.ntru_code.specs.declared.forms.Form.{Form}
use Rattle.ntru_code.specs.declared.packing.Side.{Side}

-- both sides have the same groups, and the number of each fits 64 bits
pub record Agree (from to : Side) : Type 0 where
  pub digits_from : 0 < from.group
  pub digits_to : 0 < to.group
  pub base : 0 < to.base
  pub same_groups : (group : ℕ) → group * to.group < to.count → group * from.group < from.count
  pub fits : from.base ^ from.group ≤ 2 ^ 64

-- the number of each group has no more digits on the other side than it has room for
abbrev pub HasRoom : Side → Side → Type 0
HasRoom from to = (group : ℕ) → group * to.group < to.count
    → from.base ^ suc (last_of from group) ≤ to.base ^ suc (last_of to group)

-- what writing and reading by a form rest on: the sides agree both ways, each group's number fits its bytes, and
-- the fields in range stand for coefficients in range
pub record IsSound (form : Form) : Type 0 where
  pub out : Agree form.fields form.bytes
  pub back : Agree form.bytes form.fields
  pub room : HasRoom form.fields form.bytes
  pub byte_base : form.bytes.base ≡ 256
  pub least_count : 761 ≤ form.fields.count
  pub most_count : form.fields.count ≤ 762
  pub some_step : 0 < form.step
  pub steps : form.step < 4
  pub small_base : form.bound ≤ form.fields.base
  pub more_than_one : 1 < form.fields.base
  pub low : form.lowest ≤ 2295
  pub high : form.step * form.bound ≤ form.lowest + 2295 + form.step
  pub bound : form.bound ≤ 4591
